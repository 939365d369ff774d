-- A row of an area that is lent and put back changed, for any width.
-- Assumes nothing.
use mathlib.Core.Path.{◌≡◌, sym, ap, ap₂, ◌∙◌}
use mathlib.Core.List.{List, ◌++◌}
use Prim.Native.Nat.{ℕ, ◌+◌, ◌-◌, ◌≤◌}
use native.Mathlib.Omega.{arith}
use lib.ListN.{length, take, drop}
use borrow.Rule.Slice.PartMut.{put_mid, Post-is}
use Rattle.areas.specs.Area.{part, put}
use Rattle.areas.proofs.Parts.{part_put, length_put}

module _ (at w : ℕ) (old row new : List ℕ) (room : at + w ≤ length old) (l : length row ≡ w) (q : new ≡ put_mid at (at + w - at) old row) where
  -- it is put in its place, and stands there
  back_put : new ≡ put at row old
  back_put =
      q ∙ ap (λ (xs : List ℕ). take at old ++ (row ++ xs)) (Post-is at (at + w) old (omega arith) ∙ ap (λ (j : ℕ). drop (at + j) old) (sym l))

  pub back_row : part at w new ≡ row
  back_row = ap₂ (λ (k : ℕ) (xs : List ℕ). part at k xs) (sym l) back_put ∙ part_put at row old (omega arith)

  pub back_in : new ≡ put at (part at w new) old
  back_in = back_put ∙ ap (λ (ys : List ℕ). put at ys old) (sym back_row)

  pub back_long : length new ≡ length old
  back_long = ap length back_put ∙ length_put at row old (omega arith)
