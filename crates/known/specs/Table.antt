-- The books of document 01's "Known books" that are marked *, in its order: text, held names, and what is said for which fold numbers. Where it
-- names no fold number, all of 0 to 8 are taken; "no fold" is 0. For the last but two it gives no rounds; 2 is worked by hand: s joins in the
-- first round.
-- Assumes nothing.
use Rattle.std.specs.Prelude.{Bool, List, [], ◌∷◌}
use Rattle.known.specs.Known.{Known, rounds, counts, has, lists, for, book, zero_to_eight}
use Rattle.known.specs.Test.{old_areas, our_calls, all_agree}

abbrev pub books : List Known
books =
    book "DPB 0001\n" [] (for zero_to_eight (rounds 1 ∷ []) ∷ [])
    ∷ book "DPB 0001\na:\n" ("a" ∷ []) (for zero_to_eight (rounds 1 ∷ []) ∷ [])
    ∷ book "DPB 0001\na:a\n" [] (for zero_to_eight (rounds 1 ∷ []) ∷ [])
    ∷ book "DPB 0001\np:q\nq:p\n" [] (for (0 ∷ 8 ∷ []) (rounds 1 ∷ []) ∷ [])
    ∷ book "DPB 0001\nx:y z\ny:\n" ("y" ∷ []) (for (0 ∷ 1 ∷ []) (rounds 1 ∷ []) ∷ [])
    ∷ book "DPB 0001\nd:c\nc:b\nb:a\na:\n" ("d" ∷ "c" ∷ "b" ∷ "a" ∷ [])
    (for (0 ∷ []) (rounds 4 ∷ []) ∷ for (1 ∷ []) (rounds 3 ∷ []) ∷ for (2 ∷ []) (rounds 2 ∷ []) ∷ [])
    ∷ book "DPB 0001\np:q\nq:p r\nr:s\ns:\n" ("r" ∷ "s" ∷ []) (for (0 ∷ []) (rounds 2 ∷ []) ∷ [])
    ∷ book "DPB 0001\np:q\nq:p r\nq:s\ns:\n" ("p" ∷ "q" ∷ "s" ∷ [])
    (for (0 ∷ 1 ∷ 8 ∷ []) (rounds 4 ∷ counts 3 1 ∷ [])
    ∷ for (8 ∷ []) (lists "DPL 0001 names=4 held=3 folds=8 rounds=4\np\nq\ns\n" ∷ []) ∷ [])
    ∷ book "DPB 0001\np:q s t\nq:p t\ns:t\nt:\n" ("s" ∷ "t" ∷ [])
    (for zero_to_eight (rounds 2 ∷ []) ∷ for (1 ∷ []) (has "p" ("p" ∷ "t" ∷ []) ∷ has "q" ("q" ∷ "s" ∷ "t" ∷ []) ∷ []) ∷ [])
    ∷ book "DPB 0001\na:\na:b\n" ("a" ∷ []) (for (0 ∷ []) (rounds 2 ∷ []) ∷ [])
    ∷ book "DPB 0001\nP:q\nQ:\n" ("p" ∷ "q" ∷ []) (for (0 ∷ []) (rounds 2 ∷ []) ∷ [])
    ∷ []

-- the table's test: by the solver, and by the plain route's call
unfoldable pub all_settled : Bool
all_settled = all_agree (our_calls old_areas) old_areas.model books
