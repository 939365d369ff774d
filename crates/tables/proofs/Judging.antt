-- A text of any length: the tests on its mark and its last byte, and what it comes to.
-- Assumes nothing.
use mathlib.Core.Path.{◌≡◌, refl, sym, ap, ◌∙◌, subst}
use mathlib.Core.Bool.{true, false}
use mathlib.Core.Logic.{inl, inr, ◌⊎◌}
use mathlib.Core.List.{List, [], ◌∷◌, ◌++◌}
use Prim.Native.Nat.{ℕ, suc, ◌-◌, ◌≤◌, ◌<◌}
use native.Mathlib.Omega.{arith}
use lib.Dec.{ltb}
use lib.ListN.{length, get_or, take, drop, length-append, take-append-drop}
use lib.Seq.{take-suc, take-length, take-append_seam, get_or_at}
use borrow.Author.Tests.{ltb-true, ltb-false, lt-ltb, le-ltb, eqb-true, eq-eqb}
use Rattle.limits.specs.Book.{text_bytes, names, rules}
use Rattle.sets.specs.Set.{pick}
use Rattle.sets.proofs.Logic.{either, not-true, clash, pick_true, pick_false}
use Rattle.grammar.specs.Bytes.{Bytes, line_end}
use Rattle.grammar.specs.Grammar.{Clause, Text, mark, Marked, Ended}
use Rattle.grammar.specs.Lines.{lines}
use Rattle.grammar.specs.Claims.{Classified, Cut}
use Rattle.tables.specs.Numbering.{same_bytes, names_of}
use Rattle.tables.specs.Reading.{read, refused, Saying, Fits, Book, Refusal, read_lines, marked, ended, book_of, reading}
use Rattle.tables.specs.Claims.{Judged, Reads}
use Rattle.tables.proofs.Numbering.{same_bytes_eq, same_bytes_refl, names_none}
use Rattle.tables.proofs.Loop.{read_refused, refused_number, refused_line, Passed, passed, Stopped, stopped, read_to_refusal, read_all}

-- the test for the mark
pub marked_find : (t : Bytes) → marked t ≡ true → Marked t
marked_find t e = (
  drop (length mark) t,
  sym (take-append-drop (length mark) t) ∙ ap (λ (s : Bytes). s ++ drop (length mark) t) (same_bytes_eq (take (length mark) t) mark e),
)

-- the other way
pub marked_make : (t : Bytes) → Marked t → marked t ≡ true
marked_make t (rest, e) =
    ap (λ (s : Bytes). same_bytes (take (length mark) s) mark) e
    ∙ ap (λ (s : Bytes). same_bytes s mark) (take-append_seam mark rest)
    ∙ same_bytes_refl mark

-- the test for the last byte
pub ended_find : (t : Bytes) → ended t ≡ true → Ended t
ended_find [] e = clash e refl
ended_find (b ∷ t) e =
    let n : length (b ∷ t) ≡ suc (length (b ∷ t) - 1) = omega arith in
    let l : length (b ∷ t) - 1 < length (b ∷ t) = omega arith in
    let last : get_or (b ∷ t) (length (b ∷ t) - 1) 0 ≡ line_end = eqb-true (get_or (b ∷ t) (length (b ∷ t) - 1) 0) line_end e in (
      take (length (b ∷ t) - 1) (b ∷ t),
      sym (take-length (b ∷ t)) ∙ ap (λ (k : ℕ). take k (b ∷ t)) n ∙ take-suc (b ∷ t) (length (b ∷ t) - 1) 0 l
          ∙ ap (λ (x : ℕ). take (length (b ∷ t) - 1) (b ∷ t) ++ (x ∷ [])) last,
    )

-- the other way
pub ended_make : (t : Bytes) → Ended t → ended t ≡ true
ended_make t (s, e) =
    let n : length s ≡ length t - 1 = omega (arith, ap length e, length-append s (line_end ∷ [])) in
    eq-eqb (get_or t (length t - 1) 0) line_end
    (ap (λ (x : Bytes). get_or x (length t - 1) 0) e ∙ get_or_at s line_end [] 0 (length t - 1) n)

-- no clauses fit
fits_none : Fits []
fits_none = record { rules_fit = omega arith; names_fit = omega (arith, ap length names_none) }

module _ (fold : ℕ → ℕ) where
  -- marked and ended, its lines are read
  pub book_lines : (t : Bytes) → marked t ≡ true → ended t ≡ true → book_of fold t ≡ read_lines fold (lines (drop (length mark) t)) [] 2
  unfolding book_of
  book_lines t m e =
      pick_true (pick (ended t) (read_lines fold (lines (drop (length mark) t)) [] 2) (refused 4 0)) (refused 3 0) m
      ∙ pick_true (read_lines fold (lines (drop (length mark) t)) [] 2) (refused 4 0) e

  -- its last byte ends no line
  pub book_unended : (t : Bytes) → marked t ≡ true → ended t ≡ false → book_of fold t ≡ refused 4 0
  unfolding book_of
  book_unended t m e =
      pick_true (pick (ended t) (read_lines fold (lines (drop (length mark) t)) [] 2) (refused 4 0)) (refused 3 0) m
      ∙ pick_false (read_lines fold (lines (drop (length mark) t)) [] 2) (refused 4 0) e

  -- it has no mark
  pub book_unmarked : (t : Bytes) → marked t ≡ false → book_of fold t ≡ refused 3 0
  unfolding book_of
  book_unmarked t m = pick_false (pick (ended t) (read_lines fold (lines (drop (length mark) t)) [] 2) (refused 4 0)) (refused 3 0) m

  -- a text that is too long
  pub reading_long : (t : Bytes) → text_bytes < length t → reading fold t ≡ refused 2 0
  unfolding reading
  reading_long t l = pick_true (refused 2 0) (book_of fold t) (lt-ltb text_bytes (length t) l)

  -- one that is not
  pub reading_short : (t : Bytes) → length t ≤ text_bytes → reading fold t ≡ book_of fold t
  unfolding reading
  reading_short t l = pick_false (refused 2 0) (book_of fold t) (le-ltb text_bytes (length t) l)

  -- either
  by_size : {X : Type 0} (t : Bytes) → (text_bytes < length t → X) → (length t ≤ text_bytes → X) → X
  by_size t long short =
      either (ltb text_bytes (length t)) (λ e. long (ltb-true text_bytes (length t) e)) (λ e. short (ltb-false text_bytes (length t) e))

  module _ (forms : Classified fold) (cuts : Cut) where
    -- what is read is a book
    read_book : (t : Bytes) (cs : List Clause) → book_of fold t ≡ read cs → Book fold t cs
    read_book t cs q =
        either (marked t)
        (λ m. either (ended t)
        (λ e.
        let r : Passed fold forms (lines (drop (length mark) t)) [] cs =
        passed fold forms (lines (drop (length mark) t)) [] 2 cs fits_none (sym (book_lines t m e) ∙ q)
        in
        record {
          ls = lines (drop (length mark) t);
          text = cuts.whole t (marked_find t m) (ended_find t e);
          says = subst (λ (xs : List Clause). Saying fold (lines (drop (length mark) t)) xs) (sym r.whole) r.says;
          fits = r.fits;
        })
        (λ e. read_refused cs 4 0 (sym q ∙ book_unended t m e)))
        (λ m. read_refused cs 3 0 (sym q ∙ book_unmarked t m))

    -- the lines of a text are those that it is cut into
    text_lines : (t : Bytes) (ls : List Bytes) → Text t ls → book_of fold t ≡ read_lines fold ls [] 2
    text_lines t ls x =
        book_lines t (marked_make t (cuts.marked t ls x).0) (ended_make t (cuts.marked t ls x).1)
        ∙ ap (λ (xs : List Bytes). read_lines fold xs [] 2) (sym (cuts.only t ls x))

    -- and a book is read
    book_read : (t : Bytes) (cs : List Clause) → Book fold t cs → book_of fold t ≡ read cs
    book_read t cs b = text_lines t b.ls b.text ∙ read_all fold forms b.ls [] cs 2 b.says b.fits

    -- what is refused has that refusal
    refused_refusal : (t : Bytes) (k line : ℕ) → book_of fold t ≡ refused k line → Refusal fold t k line
    unfolding Refusal
    refused_refusal t k line q =
        either (marked t)
        (λ m. either (ended t)
        (λ e.
        let r : Stopped fold forms (lines (drop (length mark) t)) [] 2 k line =
        stopped fold forms (lines (drop (length mark) t)) [] 2 k line fits_none (sym (book_lines t m e) ∙ q)
        in
        inr (inr (record {
          above = r.above;
          here = r.here;
          below = r.below;
          text = subst (Text t) r.whole (cuts.whole t (marked_find t m) (ended_find t e));
          cs = r.es;
          says = r.says;
          fits = r.fits;
          refused_for = r.refused_for;
          number = r.number;
        })))
        (λ e.
        let s : refused 4 0 ≡ refused k line = sym (book_unended t m e) ∙ q in
        inr (inl (
          sym (refused_number 4 0 k line s),
          sym (refused_line 4 0 k line s),
          marked_find t m,
          λ x. clash (ended_make t x) e,
        ))))
        (λ m.
        let s : refused 3 0 ≡ refused k line = sym (book_unmarked t m) ∙ q in
        inl (sym (refused_number 3 0 k line s), sym (refused_line 3 0 k line s), λ x. clash (marked_make t x) m))

    -- and each refusal is answered
    refusal_refused : (t : Bytes) (k line : ℕ) → Refusal fold t k line → book_of fold t ≡ refused k line
    unfolding Refusal
    refusal_refused t k line (inl (j, at, x)) =
        book_unmarked t (not-true (marked t) (λ e. x (marked_find t e)))
        ∙ ap (λ (a : ℕ). refused a 0) (sym j) ∙ ap (refused k) (sym at)
    refusal_refused t k line (inr (inl (j, at, m, x))) =
        book_unended t (marked_make t m) (not-true (ended t) (λ e. x (ended_find t e)))
        ∙ ap (λ (a : ℕ). refused a 0) (sym j) ∙ ap (refused k) (sym at)
    refusal_refused t k line (inr (inr b)) =
        text_lines t (b.above ++ (b.here ∷ b.below)) b.text
        ∙ read_to_refusal fold forms b.above b.below b.here [] b.cs 2 k b.says b.fits b.refused_for
        ∙ ap (refused k) (sym b.number)

    -- texts are accepted and refused as the grammar says
    pub judging : Judged fold
    judging = record {
      accepted = λ t cs. (read_book t cs, book_read t cs);
      refuses = λ t k line. (refused_refusal t k line, refusal_refused t k line);
    }

    -- within the length limit, and 2 beyond
    pub within_length : Reads fold
    within_length = record {
      accepts = λ t cs. (
        λ q. by_size t (λ l. read_refused cs 2 0 (sym q ∙ reading_long t l)) (λ l. (l, read_book t cs (sym (reading_short t l) ∙ q))),
        λ b. reading_short t b.0 ∙ book_read t cs b.1,
      );
      refuses = λ t k line. (
        λ q. by_size t
            (λ l.
            let s : refused 2 0 ≡ refused k line = sym (reading_long t l) ∙ q in
            inl (l, sym (refused_number 2 0 k line s), sym (refused_line 2 0 k line s)))
            (λ l. inr (l, refused_refusal t k line (sym (reading_short t l) ∙ q))),
        answered t k line,
      );
    }
      where
        -- either refusal is answered
        answered : (t : Bytes) (k line : ℕ)
            → ((text_bytes < length t) × (k ≡ 2) × (line ≡ 0)) ⊎ ((length t ≤ text_bytes) × Refusal fold t k line) → reading fold t ≡ refused k line
        answered t k line (inl (l, j, at)) = reading_long t l ∙ ap (λ (a : ℕ). refused a 0) (sym j) ∙ ap (refused k) (sym at)
        answered t k line (inr (l, r)) = reading_short t l ∙ refusal_refused t k line r

    -- what is read fits
    pub read_fits : (t : Bytes) (cs : List Clause) → book_of fold t ≡ read cs → (length cs ≤ rules) × (length (names_of cs) ≤ names)
    read_fits t cs q = ((read_book t cs q).fits.rules_fit, (read_book t cs q).fits.names_fit)
