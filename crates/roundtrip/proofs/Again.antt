-- The tables of a book that was read are in order, and their written text is no longer than the text read.
-- Assumes nothing.
use mathlib.Core.Path.{◌≡◌, sym, ap, ap₂, subst, ◌∙◌}
use mathlib.Core.Bool.{true, not}
use mathlib.Core.List.{List, [], ◌++◌, map}
use Prim.Native.Nat.{ℕ, ◌-◌, ◌*◌, ◌≤◌, ◌<◌}
use native.Mathlib.Omega.{arith}
use lib.Dec.{eqb}
use lib.ListN.{length, get_or, drop, replicate, length-map}
use lib.Seq.{drop-append_seam}
use borrow.Author.Tests.{le-leb, eq-eqb}
use Rattle.limits.specs.Book.{names, name_bytes, rules, body_words, name_area, body_area}
use Rattle.sets.specs.Set.{every}
use Rattle.sets.proofs.Logic.{and_make, not-true, not_of_false}
use Rattle.sets.proofs.Tests.{every_make}
use Rattle.areas.specs.Area.{part, filled}
use Rattle.program.specs.Program.{Rule}
use Rattle.grammar.specs.Bytes.{Bytes, Folding, all_of, Among}
use Rattle.grammar.specs.Grammar.{Clause}
use Rattle.tables.specs.Numbering.{same_bytes, place, standing, names_of, numbered}
use Rattle.tables.specs.Reading.{Fits, Book, book_of, read}
use Rattle.tables.specs.Areas.{Areas, rules_of, filled_with, padded, name_rows, head_rows, body_rows, tables_of, name_at, names_in, rules_in}
use Rattle.tables.specs.Writing.{own, zero_from, good_name, different, numbers_in, orderly, met_in, well_formed, written, Readable}
use Rattle.tables.specs.Claims.{Judged}
use Rattle.tables.proofs.Numbering.{Distinct, same_bytes_eq, names_distinct, names_from_lem, heads_length, bodies_length, book_low}
use Rattle.tables.proofs.Encoding.{AllFine, length_name_rows, part_name_rows, name_at_lem, names_filled, rules_filled, zero_all, zero_filled}
use Rattle.tables.proofs.Good.{Good, good_fine, saying_good}
use Rattle.roundtrip.specs.Claims.{written_text}
use Rattle.roundtrip.proofs.Walks.{book_met}
use Rattle.roundtrip.proofs.Shorter.{written_shorter}

module _ (fold : ℕ → ℕ) where
  module _ (ns : List Bytes) (good : (a : ℕ) → a < length ns → Good fold (get_or ns a [])) where
    fine : AllFine ns
    fine = good_fine fold ns good

    -- the rows of good names are good
    good_row : (old : List ℕ) (a : ℕ) → a < length ns → good_name fold (filled name_area (name_rows ns) old) a ≡ true
    unfolding good_name filled padded
    good_row old a l =
        let rest : List ℕ = replicate (name_area - length (name_rows ns)) 0 ++ drop name_area old in
        let n : Bytes = get_or ns a [] in
        let e : name_at (name_rows ns ++ rest) a ≡ n = name_at_lem ns rest fine a l in
        let p : part (a * name_bytes) name_bytes (name_rows ns ++ rest) ≡ n ++ replicate (name_bytes - length n) 0 =
        part_name_rows ns rest (λ a l. (good a l).fits) a l
        in
        let z : drop (length (name_at (name_rows ns ++ rest) a)) (part (a * name_bytes) name_bytes (name_rows ns ++ rest))
        ≡ replicate (name_bytes - length n) 0 =
        ap₂ (λ (k : ℕ) (s : List ℕ). drop k s) (ap length e) p ∙ drop-append_seam n (replicate (name_bytes - length n) 0)
        in
        and_make (le-leb 1 (length (name_at (name_rows ns ++ rest) a)) (omega (arith, ap length e, (good a l).some)))
        (and_make (ap (all_of (own fold)) e ∙ (good a l).bytes)
        (ap (all_of (λ (b : ℕ). eqb b 0)) z ∙ zero_all (name_bytes - length n)))

    -- and those of distinct names differ
    rows_differ : (old : List ℕ) → Distinct ns → different (filled name_area (name_rows ns) old) (length ns) ≡ true
    unfolding different filled
    rows_differ old d =
        let rest : List ℕ = replicate (name_area - length (name_rows ns)) 0 ++ drop name_area old in
        let at : ℕ → Bytes = name_at (name_rows ns ++ rest) in
        every_make (length ns) (λ a. every a (λ b. not (same_bytes (at a) (at b))))
        (λ a l. every_make a (λ b. not (same_bytes (at a) (at b)))
        (λ b m. not_of_false (same_bytes (at a) (at b)) (not-true (same_bytes (at a) (at b))
        (λ e.
        let k : b < length ns = omega arith in
        let q : get_or ns a [] ≡ get_or ns b [] = sym (name_at_lem ns rest fine a l) ∙ same_bytes_eq (at a) (at b) e ∙ name_at_lem ns rest fine b k in
        omega (arith, d a l, d b k, ap (place ns) q)))))

    -- no row past the names
    rows_end : (old : List ℕ) → zero_from (length ns * name_bytes) name_area (filled name_area (name_rows ns) old) ≡ true
    rows_end old =
        subst (λ (k : ℕ). zero_from k name_area (filled name_area (name_rows ns) old) ≡ true) (length_name_rows ns (λ a l. (good a l).fits))
        (zero_filled name_area (name_rows ns) old)

  -- no head and no body past the rules
  heads_end : (rs : List (Rule ℕ)) (old : List ℕ) → zero_from (length rs) rules (filled rules (head_rows rs) old) ≡ true
  heads_end rs old =
      subst (λ (k : ℕ). zero_from k rules (filled rules (head_rows rs) old) ≡ true) (heads_length rs) (zero_filled rules (head_rows rs) old)

  bodies_end : (rs : List (Rule ℕ)) (old : List ℕ) → zero_from (length rs * body_words) body_area (filled body_area (body_rows rs) old) ≡ true
  bodies_end rs old =
      subst (λ (k : ℕ). zero_from k body_area (filled body_area (body_rows rs) old) ≡ true) (bodies_length rs) (zero_filled body_area (body_rows rs) old)

  module _ (cs : List Clause) (old : Areas) (fits : Fits cs) (good : (x : Bytes) → Among x (standing cs) → Good fold x) where
    good_at : (a : ℕ) → a < length (names_of cs) → Good fold (get_or (names_of cs) a [])
    good_at a l = good (get_or (names_of cs) a []) (names_from_lem cs a l)

    -- the names and the rules of its tables are those of the book
    pub names_back : names_in (tables_of cs old).spellings (length (names_of cs)) ≡ names_of cs
    unfolding tables_of filled_with
    names_back = names_filled (names_of cs) old.spellings (fine (names_of cs) good_at)

    pub rules_back : rules_in (rules_of (tables_of cs old)) (length cs) ≡ map (numbered (names_of cs)) cs
    unfolding tables_of
    rules_back =
        let rs : List (Rule ℕ) = map (numbered (names_of cs)) cs in
        ap (rules_in (rules_of (filled_with (names_of cs) rs old))) (sym (length-map cs (numbered (names_of cs))))
        ∙ rules_filled (names_of cs) rs old (book_low cs fits.names_fit)

    -- its tables are in order
    pub in_order : well_formed fold (tables_of cs old) (length (names_of cs)) (length cs) ≡ true
    unfolding well_formed tables_of filled_with
    in_order =
        let ns : List Bytes = names_of cs in
        let rs : List (Rule ℕ) = map (numbered ns) cs in
        let m : length rs ≡ length cs = length-map cs (numbered ns) in
        let met = book_met cs fits.names_fit in
        and_make (and_make (le-leb (length ns) names fits.names_fit) (le-leb (length cs) rules fits.rules_fit))
        (and_make
        (and_make (every_make (length ns) (good_name fold (filled name_area (name_rows ns) old.spellings)) (good_row ns good_at old.spellings))
        (and_make (rows_differ ns good_at old.spellings (names_distinct cs)) (rows_end ns good_at old.spellings)))
        (and_make
        (and_make (subst (λ (k : ℕ). zero_from k rules (filled rules (head_rows rs) old.heads) ≡ true) m (heads_end rs old.heads))
        (subst (λ (k : ℕ). zero_from (k * body_words) body_area (filled body_area (body_rows rs) old.bodies) ≡ true) m (bodies_end rs old.bodies)))
        (and_make (ap (λ (k : List (Rule ℕ)). orderly 0 (numbers_in k)) rules_back ∙ met.0)
        (eq-eqb (met_in 0 (numbers_in (rules_in (rules_of (tables_of cs old)) (length cs)))) (length ns)
        (ap (λ (k : List (Rule ℕ)). met_in 0 (numbers_in k)) rules_back ∙ met.1)))))

  -- what a book's text is, with its tables
  module _ (folding : Folding fold) (t : Bytes) (cs : List Clause) (old : Areas) (book : Book fold t cs) where
    -- every name that stands in it is a folded name
    book_good : (x : Bytes) → Among x (standing cs) → Good fold x
    book_good = saying_good fold folding book.ls cs book.says

    -- its tables are in order, and the text written from them is no longer
    pub book_again : (well_formed fold (tables_of cs old) (length (names_of cs)) (length cs) ≡ true)
        × (length (written_text (tables_of cs old) (length (names_of cs)) (length cs)) ≤ length t)
    book_again =
        let e : written_text (tables_of cs old) (length (names_of cs)) (length cs) ≡ written (names_of cs) (map (numbered (names_of cs)) cs) =
        ap₂ written (names_back cs old book.fits book_good) (rules_back cs old book.fits book_good)
        in
        (in_order cs old book.fits book_good, omega (arith, ap length e, written_shorter fold folding (names_of cs) t cs book))

  -- so are those of a text that is read
  pub again : Folding fold → Judged fold → (t : Bytes) (cs : List Clause) (old : Areas) → book_of fold t ≡ read cs
      → (well_formed fold (tables_of cs old) (length (names_of cs)) (length cs) ≡ true)
      × (length (written_text (tables_of cs old) (length (names_of cs)) (length cs)) ≤ length t)
  again folding judged t cs old e = book_again folding t cs old ((judged.accepted t cs).0 e)

  -- tables that some book reads to are in order
  pub readable_formed : Folding fold → (o : Areas) (n m : ℕ) → Readable fold o n m → well_formed fold o n m ≡ true
  readable_formed folding o n m r =
      ap₂ (well_formed fold o) r.count r.size
      ∙ ap (λ (k : Areas). well_formed fold k (length (names_of r.cs)) (length r.cs)) r.tables
      ∙ (book_again folding r.text r.cs o r.book).0
