-- The fold call: each way out of it, and what document 01 asks of it.
-- Assumes nothing.
use mathlib.Core.Path.{◌≡◌, refl, sym, ap, ◌∙◌, subst}
use mathlib.Core.Logic.{inl, inr}
use mathlib.Core.Bool.{true, false}
use mathlib.Core.List.{List, []}
use Prim.Native.Nat.{ℕ, ◌*◌, ◌≤◌, ◌<◌}
use native.Mathlib.Omega.{arith}
use lib.Dec.{leb, ltb}
use borrow.Author.Tests.{eqb-false, leb-true, le-leb, ltb-true, ltb-false, lt-ltb, le-ltb}
use lib.ListN.{length}
use Rattle.limits.specs.Book.{atoms, folds, word_bits, row_words, row_area}
use Rattle.limits.specs.Cause.{fold_causes}
use Rattle.limits.proofs.Causes.{without, one_found}
use Rattle.sets.specs.Set.{Set, pick}
use Rattle.sets.proofs.Logic.{either, clash, not-true, and_left, and_right, and_make, or_left, or_right, or_elim, holds, fails, pick_true, pick_false}
use Rattle.program.specs.System.{rows_after}
use Rattle.areas.specs.Area.{filled}
use Rattle.areas.proofs.Filled.{filled_is}
use Rattle.systems.specs.Rows.{row_in, formed_rows}
use Rattle.systems.specs.Fold.{FoldOutcome, short_rows, formed_all, fold_refusal, folded_area, fold_call}
use Rattle.systems.specs.Claims.{FoldLong, FoldFormed, Folds}
use Rattle.systems.proofs.Packed.{row_begun, row_begun_past, row_in_past}
use Rattle.systems.proofs.Formed.{formed_at, formed_make, after_in}

-- The tests of the call.

pub rows_long : (all spare : List ℕ) → short_rows all spare ≡ false → FoldLong all spare
unfolding short_rows
rows_long all spare e = (
  either (ltb (length all) row_area) (λ t. clash (or_left (ltb (length spare) row_area) t) e) (λ t. ltb-false (length all) row_area t),
  either (ltb (length spare) row_area) (λ t. clash (or_right (ltb (length all) row_area) t) e) (λ t. ltb-false (length spare) row_area t),
)

pub rows_short : (all spare : List ℕ) → short_rows all spare ≡ true → FoldLong all spare → ⊥
unfolding short_rows
rows_short all spare e long =
    or_elim (ltb (length all) row_area) (ltb (length spare) row_area) e
    (λ t. clash t (le-ltb (length all) row_area long.0))
    (λ t. clash t (le-ltb (length spare) row_area long.1))

pub all_formed : (all : List ℕ) (m : ℕ) → formed_all all m ≡ true → FoldFormed all m
unfolding formed_all
all_formed all m e = (
  leb-true m atoms (and_left (leb m atoms) (formed_rows row_words atoms m all) e),
  formed_at row_words atoms m all (and_right (leb m atoms) (formed_rows row_words atoms m all) e),
)

pub formed_all_lem : (all : List ℕ) (m : ℕ) → FoldFormed all m → formed_all all m ≡ true
unfolding formed_all
formed_all_lem all m f = and_make (le-leb m atoms f.0) (formed_make row_words atoms m all f.1)

module _ (all spare : List ℕ) (m k : ℕ) where
  -- The ways out.

  abbrev pub folded_well : FoldOutcome
  folded_well = record { number = 0; all = folded_area k m all; spare = filled row_area [] spare }

  abbrev after_tests : FoldOutcome
  after_tests = pick (formed_all all m) folded_well (fold_refusal 10 all spare)

  abbrev after_short : FoldOutcome
  after_short = pick (ltb folds k) (fold_refusal 9 all spare) after_tests

  pub fold_short : short_rows all spare ≡ true → fold_call all spare m k ≡ fold_refusal 1 all spare
  unfolding fold_call
  fold_short e = pick_true (fold_refusal 1 all spare) after_short e

  pub fold_over : short_rows all spare ≡ false → folds < k → fold_call all spare m k ≡ fold_refusal 9 all spare
  unfolding fold_call
  fold_over e l =
      pick_false (fold_refusal 1 all spare) after_short e ∙ pick_true (fold_refusal 9 all spare) after_tests (lt-ltb folds k l)

  pub fold_ill : short_rows all spare ≡ false → k ≤ folds → formed_all all m ≡ false → fold_call all spare m k ≡ fold_refusal 10 all spare
  unfolding fold_call
  fold_ill e l f =
      pick_false (fold_refusal 1 all spare) after_short e ∙ pick_false (fold_refusal 9 all spare) after_tests (le-ltb folds k l)
      ∙ pick_false folded_well (fold_refusal 10 all spare) f

  pub fold_good : short_rows all spare ≡ false → k ≤ folds → formed_all all m ≡ true → fold_call all spare m k ≡ folded_well
  unfolding fold_call
  fold_good e l f =
      pick_false (fold_refusal 1 all spare) after_short e ∙ pick_false (fold_refusal 9 all spare) after_tests (le-ltb folds k l)
      ∙ pick_true folded_well (fold_refusal 10 all spare) f

  -- The rows left, also those at and past the count.

  pub folded_rows_lem : FoldFormed all m → (i : ℕ) → i < atoms → (a : ℕ)
      → row_in row_words (folded_area k m all) i a ≡ rows_after k m (row_in row_words all) i a
  unfolding folded_area
  folded_rows_lem f i l a =
      let rows : ℕ → Set = rows_after k m (row_in row_words all) in
      let limit : m ≤ atoms = f.0 in
      let inside : rows i a ≡ true → (i < m) × (a < m) = after_in k atoms m (row_in row_words all) limit f.1 i a l in
      either (ltb i m)
      (λ t.
      either (ltb a (row_words * word_bits))
      (λ u. row_begun row_words m rows all i a (ltb-true i m t) (ltb-true a (row_words * word_bits) u))
      (λ u.
      let past : row_words * word_bits ≤ a = ltb-false a (row_words * word_bits) u in
      row_in_past row_words (folded_area k m all) i a past
      ∙ sym (not-true (rows i a) (λ e. let b : a < m = (inside e).1 in omega arith))))
      (λ t.
      let past : m ≤ i = ltb-false i m t in
      ap (λ (g : Set). g a) (row_begun_past row_words m rows all i past)
      ∙ not-true (row_in row_words all i a) (λ e. let b : i < m = (f.1 i a l e).0 in omega arith)
      ∙ sym (not-true (rows i a) (λ e. let b : i < m = (inside e).0 in omega arith)))

  -- The claim, at each way out.

  claim_short : short_rows all spare ≡ true → Folds all spare m k (fold_refusal 1 all spare)
  unfolding without
  claim_short e =
      let none : FoldLong all spare → ⊥ = rows_short all spare e in
      record {
        accepts = fails (eqb-false 1 0 refl) (λ q. none q.0);
        short = holds refl none;
        over = fails (eqb-false 1 9 refl) (λ q. none q.0);
        ill = fails (eqb-false 1 10 refl) (λ q. none q.0);
        no_other = inr (one_found 1 1 fold_causes refl refl);
        kept = λ h. (refl, refl);
        rows = λ h. absurd (eqb-false 1 0 refl h);
        zero_spare = λ h. absurd (eqb-false 1 0 refl h);
      }

  claim_over : short_rows all spare ≡ false → folds < k → Folds all spare m k (fold_refusal 9 all spare)
  unfolding without
  claim_over e l =
      let long : FoldLong all spare = rows_long all spare e in
      let none : k ≤ folds → ⊥ = λ b. omega arith in
      record {
        accepts = fails (eqb-false 9 0 refl) (λ q. none q.1);
        short = fails (eqb-false 9 1 refl) (λ h. h long);
        over = holds refl (long, l);
        ill = fails (eqb-false 9 10 refl) (λ q. none q.1);
        no_other = inr (one_found 9 9 fold_causes refl refl);
        kept = λ h. (refl, refl);
        rows = λ h. absurd (eqb-false 9 0 refl h);
        zero_spare = λ h. absurd (eqb-false 9 0 refl h);
      }

  claim_ill : short_rows all spare ≡ false → k ≤ folds → formed_all all m ≡ false → Folds all spare m k (fold_refusal 10 all spare)
  unfolding without
  claim_ill e l f =
      let long : FoldLong all spare = rows_long all spare e in
      let none : FoldFormed all m → ⊥ = λ g. clash (formed_all_lem all m g) f in
      record {
        accepts = fails (eqb-false 10 0 refl) (λ q. none q.2);
        short = fails (eqb-false 10 1 refl) (λ h. h long);
        over = fails (eqb-false 10 9 refl) (λ q. let b : folds < k = q.1 in omega arith);
        ill = holds refl (long, l, none);
        no_other = inr (one_found 10 10 fold_causes refl refl);
        kept = λ h. (refl, refl);
        rows = λ h. absurd (eqb-false 10 0 refl h);
        zero_spare = λ h. absurd (eqb-false 10 0 refl h);
      }

  claim_good : short_rows all spare ≡ false → k ≤ folds → formed_all all m ≡ true → Folds all spare m k folded_well
  claim_good e l f =
      let long : FoldLong all spare = rows_long all spare e in
      let formed : FoldFormed all m = all_formed all m f in
      record {
        accepts = holds refl (long, l, formed);
        short = fails (eqb-false 0 1 refl) (λ h. h long);
        over = fails (eqb-false 0 9 refl) (λ q. let b : folds < k = q.1 in omega arith);
        ill = fails (eqb-false 0 10 refl) (λ q. q.2 formed);
        no_other = inl refl;
        kept = λ h. absurd (h refl);
        rows = λ h. folded_rows_lem formed;
        zero_spare = λ h. filled_is row_area [] spare;
      }

  pub folds_rows : Folds all spare m k (fold_call all spare m k)
  folds_rows =
      let P : FoldOutcome → Type 0 = Folds all spare m k in
      either (short_rows all spare) (λ e. subst P (sym (fold_short e)) (claim_short e))
      (λ e. either (ltb folds k)
      (λ t. let l : folds < k = ltb-true folds k t in subst P (sym (fold_over e l)) (claim_over e l))
      (λ t.
      let l : k ≤ folds = ltb-false folds k t in
      either (formed_all all m) (λ f. subst P (sym (fold_good e l f)) (claim_good e l f))
      (λ f. subst P (sym (fold_ill e l f)) (claim_ill e l f))))
