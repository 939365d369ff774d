-- A fold composes the step over "all" rows with itself, row by row; k folds stand for 2 to the power k steps.
-- Assumes nothing.
use mathlib.Core.Path.{◌≡◌, refl, sym, ap, ◌∙◌, fun_ext}
use mathlib.Core.Bool.{◌&&◌}
use Prim.Native.Nat.{ℕ, zero, suc, ◌+◌, ◌*◌, ◌^◌}
use native.Mathlib.Nat.{zero-add, suc-add, pow-suc}
use native.Mathlib.Omega.{arith}
use Rattle.sets.specs.Set.{Set, within, pick, meets}
use Rattle.sets.specs.Steps.{after}
use Rattle.sets.proofs.Logic.{iff, and_left, and_right, and_make}
use Rattle.sets.proofs.Tests.{exists_make, exists_find, within_at, within_make}
use Rattle.program.specs.System.{System, any_head, all_step, round, unfold_once, rows_after, folded}

-- one fold: new row i lies within v where each old row j does, for all j in old row i
pub fold_composes : (m : ℕ) (rows : ℕ → Set) (v : Set) (i : ℕ) → all_step m (unfold_once m rows) v i ≡ all_step m rows (all_step m rows v) i
unfolding all_step unfold_once
fold_composes m rows v i =
    iff (within m (unfold_once m rows i) v) (within m (rows i) (all_step m rows v))
    (λ e. within_make m (rows i) (all_step m rows v)
    (λ j l p. within_make m (rows j) v
    (λ k h q. within_at m (unfold_once m rows i) v e k h (exists_make m (λ j. rows i j && rows j k) j l (and_make p q)))))
    (λ e. within_make m (unfold_once m rows i) v
    (λ k h q.
    let r = exists_find m (λ j. rows i j && rows j k) q in
    let j : ℕ = r.0 in
    within_at m (rows j) v (within_at m (rows i) (all_step m rows v) e j r.1 (and_left (rows i j) (rows j k) r.2)) k h
    (and_right (rows i j) (rows j k) r.2)))

pub after_add : (a b : ℕ) (F : Set → Set) (v : Set) → after (a + b) F v ≡ after a F (after b F v)
unfolding after
after_add zero b F v = ap (λ (t : ℕ). after t F v) (zero-add b)
after_add (suc a) b F v = ap (λ (t : ℕ). after t F v) (suc-add a b) ∙ ap F (after_add a b F v)

-- k folds
pub folds_compose : (k m : ℕ) (rows : ℕ → Set) (v : Set) → all_step m (rows_after k m rows) v ≡ after (2 ^ k) (all_step m rows) v
unfolding rows_after
folds_compose zero m rows v = unfold after in refl
folds_compose (suc k) m rows v =
    let A : Set → Set = all_step m rows in
    let B : Set → Set = all_step m (rows_after k m rows) in
    let N : ℕ = 2 ^ k in
    let twice : N * 2 ≡ N + N = omega arith in
    fun_ext (λ i. fold_composes m (rows_after k m rows) v i) ∙ folds_compose k m rows (B v)
    ∙ ap (λ (w : Set). after N A w) (folds_compose k m rows v) ∙ sym (after_add N N A v)
    ∙ ap (λ (t : ℕ). after t A v) (sym (pow-suc 2 k ∙ twice))

-- a round in which the step over "all" rows is taken N times
unfoldable pub round_by : System → ℕ → Set → Set
round_by s N v i = pick (any_head s i) (meets s.atoms (s.any i) v) (after N (all_step s.atoms s.all) v i)

-- is the round after k folds where N is 2 to the power k
pub round_folded : (s : System) (k : ℕ) → round (folded k s) ≡ round_by s (2 ^ k)
unfolding round round_by any_head
round_folded s k =
    fun_ext (λ v. fun_ext (λ i.
    ap (λ (w : Set). pick (any_head s i) (meets s.atoms (s.any i) v) (w i)) (folds_compose k s.atoms s.all v)))
