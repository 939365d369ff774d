-- Folds by turns into the spare and back, for any width: one fold more, the rows copied back, and the spare cleared.
-- Assumes nothing.
use mathlib.Core.Path.{◌≡◌, sym, ap, ap₂, ◌∙◌}
use mathlib.Core.List.{List, [], ◌++◌}
use mathlib.Core.Bool.{true}
use Prim.Native.Nat.{ℕ, suc, ◌+◌, ◌-◌, ◌*◌, ◌≤◌, ◌<◌}
use native.Mathlib.Nat.{le_trans}
use native.Mathlib.Omega.{arith}
use lib.ListN.{length, take, drop, replicate, length-replicate}
use Rattle.limits.specs.Book.{word_bits, row_words}
use Rattle.sets.specs.Set.{Set}
use Rattle.sets.proofs.Logic.{iff}
use Rattle.areas.specs.Area.{begun, filled, cleared, Clear}
use Rattle.rows.proofs.Reading.{Known, in_range}
use Rattle.program.specs.System.{unfold_once, rows_after}
use Rattle.areas.proofs.Begun.{drop_begun, used, begun_begun, zeros_front}
use Rattle.areas.proofs.Filled.{front_cleared, filled_zeros}
use Rattle.systems.specs.Rows.{row_in, packed, formed_rows}
use Rattle.systems.specs.Fold.{folded_area}
use Rattle.systems.proofs.Packed.{length_packed, packed_same, row_begun, begun_rows}
use Rattle.systems.proofs.Clearing.{tail_cleared, tail_clear}
use Rattle.systems.proofs.Formed.{formed_at, unfold_find, unfold_make, after_in}

-- what lies past the rows put in is as it was
pub rows_past : (w : ℕ) (rows : ℕ → Set) (old to : List ℕ) (m : ℕ) → to ≡ begun (packed w m rows) old → drop (m * w) to ≡ drop (m * w) old
rows_past w rows old to m e = ap (drop (m * w)) e ∙ drop_begun (m * w) (packed w m rows) old (omega (arith, length_packed w m rows))

-- Folds one after another.

-- an area with its first m rows folded d times
abbrev pub folded_rows : ℕ → ℕ → ℕ → List ℕ → List ℕ
folded_rows w d m all = begun (packed w m (rows_after d m (row_in w all))) all

-- not folded yet
pub folds_none : (w m : ℕ) (all : List ℕ) → Known all → m * w ≤ length all → all ≡ folded_rows w 0 m all
unfolding rows_after
folds_none w m all p l = sym (begun_rows w m all (in_range all p) l)

-- of the n rows, those at and past the count m are empty, and no row has a bit there
module _ (w n m : ℕ) (all : List ℕ) (l : m ≤ n) (b : n ≤ w * word_bits) (h : formed_rows w n m all ≡ true) where
  -- the rows after d folds
  abbrev after : ℕ → ℕ → Set
  after d = rows_after d m (row_in w all)

  -- one fold over all n rows of an area that begins with them is one fold more
  once : (d : ℕ) (old : List ℕ) (i a : ℕ) → i < m → a < w * word_bits
      → unfold_once n (row_in w (begun (packed w m (after d)) old)) i a ≡ after (suc d) i a
  unfolding rows_after
  once d old i a li la =
      let new : ℕ → Set = row_in w (begun (packed w m (after d)) old) in
      let same : (i a : ℕ) → i < m → a < w * word_bits → new i a ≡ after d i a = row_begun w m (after d) old in
      iff (unfold_once n new i a) (unfold_once m (after d) i a)
      (λ e.
      let q = unfold_find n new i a e in
      let j : ℕ = q.0 in
      let t : after d i j ≡ true = sym (same i j li (le_trans q.1 b)) ∙ q.2 in
      let lj : j < m = (after_in d n m (row_in w all) l (formed_at w n m all h) i j (le_trans li l) t).1 in
      unfold_make m (after d) i j a lj t (sym (same j a lj la) ∙ q.3))
      (λ e.
      let q = unfold_find m (after d) i a e in
      let j : ℕ = q.0 in
      let lj : j < n = le_trans q.1 l in
      unfold_make n new i j a lj (same i j li (le_trans lj b) ∙ q.2) (same j a q.1 la ∙ q.3))

  -- so it is written
  fold_on : (d : ℕ) (old from to new : List ℕ) → from ≡ begun (packed w m (after d)) old
      → new ≡ begun (packed w m (unfold_once n (row_in w from))) to → new ≡ begun (packed w m (after (suc d))) to
  fold_on d old from to new e f =
      f ∙ ap (λ (xs : List ℕ). begun (packed w m (unfold_once n (row_in w xs))) to) e
      ∙ ap (λ (ys : List ℕ). begun ys to)
      (packed_same w m (unfold_once n (row_in w (begun (packed w m (after d)) old))) (after (suc d)) (λ i li a la. once d old i a li la))

  -- rows over rows
  over : (d e : ℕ) → begun (packed w m (after e)) (folded_rows w d m all) ≡ folded_rows w e m all
  over d e = begun_begun (packed w m (after e)) (packed w m (after d)) all (length_packed w m (after e) ∙ sym (length_packed w m (after d)))

  -- `now` has the rows after d folds, and `other` is the spare with one fold more
  module _ (d : ℕ) (now spare other : List ℕ) (e : now ≡ folded_rows w d m all)
      (f : other ≡ begun (packed w m (unfold_once n (row_in w now))) spare) where
    -- and back
    pub two_folds : (k : ℕ) (new : List ℕ) → k ≡ d + 2 → new ≡ begun (packed w m (unfold_once n (row_in w other))) now → new ≡ folded_rows w k m all
    two_folds k new ek g =
        let two : suc (suc d) ≡ k = omega arith in
        fold_on (suc d) spare other now new (fold_on d all now spare other e f) g
        ∙ ap (begun (packed w m (after (suc (suc d))))) e ∙ over d (suc (suc d))
        ∙ ap (λ (x : ℕ). folded_rows w x m all) two

    -- or their words copied back
    pub one_fold : (k at : ℕ) (front : List ℕ) → k ≡ d + 1 → at ≡ m * w → front ≡ take at other → front ++ drop at now ≡ folded_rows w k m all
    unfolding begun
    one_fold k at front ek ea g =
        let one : suc d ≡ k = omega arith in
        let size : at ≡ length (packed w m (after (suc d))) = omega (arith, length_packed w m (after (suc d))) in
        let rows : front ≡ packed w m (after (suc d)) =
        g ∙ ap₂ take size (fold_on d all now spare other e f) ∙ used (packed w m (after (suc d))) spare in
        ap₂ (λ (xs : List ℕ) (x : ℕ). xs ++ drop x now) rows size
        ∙ ap (begun (packed w m (after (suc d)))) e ∙ over d (suc d)
        ∙ ap (λ (x : ℕ). folded_rows w x m all) one

-- the folds are done
pub folds_end : (d k m : ℕ) (all now : List ℕ) → now ≡ folded_rows row_words d m all → d ≡ k → now ≡ folded_area k m all
unfolding folded_area
folds_end d k m all now e q = e ∙ ap (λ (x : ℕ). folded_rows row_words x m all) q

-- the words of the rows cleared in a spare that is as it was past them
pub spare_zeros : (v u : ℕ) (old spare new : List ℕ) → u ≡ v → drop v spare ≡ drop v old → new ≡ cleared 0 u spare → new ≡ cleared 0 v old
spare_zeros v u old spare new k e p =
    p ∙ ap (λ (n : ℕ). cleared 0 n spare) k ∙ ap (λ (xs : List ℕ). replicate (v - 0) 0 ++ xs) e

-- the spare cleared, over the words of the rows and then past them, where it is as it was
module _ (size v u : ℕ) (old spare mid : List ℕ) (k : u ≡ v) (l : v ≤ size) (e : drop v spare ≡ drop v old) (p : mid ≡ cleared 0 u spare) where
  width : length (replicate {A = ℕ} u 0) ≡ u
  width = length-replicate u 0

  zeros : mid ≡ begun (replicate u 0) old
  zeros =
      front_cleared u spare mid p ∙ sym (zeros_front u spare)
      ∙ ap (λ (xs : List ℕ). replicate u 0 ++ xs) (ap (λ (n : ℕ). drop n spare) k ∙ e ∙ ap (λ (n : ℕ). drop n old) (sym k)) ∙ zeros_front u old

  -- it is zero
  pub spare_zero : (new : List ℕ) → new ≡ cleared u size mid → new ≡ filled size [] old
  spare_zero new q =
      tail_cleared size u (replicate u 0) old mid (sym width) (omega (arith, width)) zeros new q ∙ filled_zeros size u old (omega arith)

  -- and was so past the rows, where it was clear before
  pub spare_clear : Clear size old → cleared u size mid ≡ mid
  spare_clear = tail_clear size u (replicate u 0) old mid (sym width) (omega (arith, width)) zeros
