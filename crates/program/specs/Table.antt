-- The books that document 01 settles, and a loop that a fact holds up, as programs: names numbered by first appearance; then held names,
-- runs, c and h.
-- Assumes nothing.
use Rattle.std.specs.Prelude.{Bool, ◌&&◌, List, [], ◌∷◌}
use Rattle.sets.specs.Set.{same}
use Rattle.program.specs.System.{System, folded}
use Rattle.program.specs.Standard.{standard}
use Rattle.program.specs.Samples.{Sample, sample, rule, taking, up_to, set_of}

-- no rule at all
abbrev pub empty_book : Sample
empty_book = sample 0 [] [] (up_to 8 1) 0 0

-- a:
abbrev pub fact_book : Sample
fact_book = sample 1 (rule 0 [] ∷ []) (0 ∷ []) (up_to 8 1) 0 0

-- a:a
abbrev pub self_book : Sample
self_book = sample 1 (rule 0 (0 ∷ []) ∷ []) [] (up_to 8 1) 1 0

-- p:q/q:p
abbrev pub pair_book : Sample
pair_book = sample 2 (rule 0 (1 ∷ []) ∷ rule 1 (0 ∷ []) ∷ []) [] (taking 0 1 ∷ taking 8 1 ∷ []) 2 0

-- x:y z/y:
abbrev pub undefined_book : Sample
undefined_book = sample 3 (rule 0 (1 ∷ 2 ∷ []) ∷ rule 1 [] ∷ []) (1 ∷ []) (taking 0 1 ∷ taking 1 1 ∷ []) 1 0

-- d:c/c:b/b:a/a:
abbrev pub chain_book : Sample
chain_book =
    sample 4 (rule 0 (1 ∷ []) ∷ rule 1 (2 ∷ []) ∷ rule 2 (3 ∷ []) ∷ rule 3 [] ∷ []) (0 ∷ 1 ∷ 2 ∷ 3 ∷ [])
    (taking 0 4 ∷ taking 1 3 ∷ taking 2 2 ∷ []) 3 0

-- p:q/q:p r/r:s/s:
abbrev pub loose_book : Sample
loose_book =
    sample 4 (rule 0 (1 ∷ []) ∷ rule 1 (0 ∷ 2 ∷ []) ∷ rule 2 (3 ∷ []) ∷ rule 3 [] ∷ []) (2 ∷ 3 ∷ []) (taking 0 2 ∷ []) 3 0

-- p:q/q:p r/q:s/s:, the book that document 01 prints
abbrev pub printed_book : Sample
printed_book =
    sample 4 (rule 0 (1 ∷ []) ∷ rule 1 (0 ∷ 2 ∷ []) ∷ rule 1 (3 ∷ []) ∷ rule 3 [] ∷ []) (0 ∷ 1 ∷ 3 ∷ [])
    (taking 0 4 ∷ taking 1 4 ∷ taking 8 4 ∷ []) 3 1

-- p:q s t/q:p t/s:t/t:
abbrev pub fold_book : Sample
fold_book =
    sample 4 (rule 0 (1 ∷ 2 ∷ 3 ∷ []) ∷ rule 1 (0 ∷ 3 ∷ []) ∷ rule 2 (3 ∷ []) ∷ rule 3 [] ∷ []) (2 ∷ 3 ∷ []) (up_to 8 2) 3 0

-- a:/a:b
abbrev pub fact_among_book : Sample
fact_among_book = sample 2 (rule 0 [] ∷ rule 0 (1 ∷ []) ∷ []) (0 ∷ []) (taking 0 2 ∷ []) 1 1

-- P:q/Q:
abbrev pub capital_book : Sample
capital_book = sample 2 (rule 0 (1 ∷ []) ∷ rule 1 [] ∷ []) (0 ∷ 1 ∷ []) (taking 0 2 ∷ []) 1 0

-- a:b/b:c/c:a/a:
abbrev pub held_loop_book : Sample
held_loop_book =
    sample 3 (rule 0 (1 ∷ []) ∷ rule 1 (2 ∷ []) ∷ rule 2 (0 ∷ []) ∷ rule 0 [] ∷ []) (0 ∷ 1 ∷ 2 ∷ [])
    (taking 0 5 ∷ taking 1 4 ∷ taking 2 3 ∷ []) 3 1

abbrev pub samples : List Sample
samples =
    empty_book ∷ fact_book ∷ self_book ∷ pair_book ∷ undefined_book ∷ chain_book ∷ loose_book ∷ printed_book ∷ fold_book ∷ fact_among_book
    ∷ capital_book ∷ held_loop_book ∷ []

-- Rows of p:q s t/.. after one fold: p has p t, q has q s t.
unfoldable pub folded_rows : Bool
folded_rows =
    let s : System = folded 1 (standard fold_book.book) in
    same 4 (s.all 0) (set_of (0 ∷ 3 ∷ [])) && same 4 (s.all 1) (set_of (1 ∷ 2 ∷ 3 ∷ []))
