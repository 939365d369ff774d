-- An area cleared from its first unused row on: what it then holds, and that nothing is to be cleared there where it was clear before.
-- Assumes nothing.
use mathlib.Core.Path.{◌≡◌, ap, ap₂, ◌∙◌}
use mathlib.Core.List.{List}
use Prim.Native.Nat.{ℕ, ◌≤◌}
use native.Mathlib.Omega.{arith}
use lib.ListN.{length, drop}
use Rattle.areas.proofs.Begun.{drop_begun}
use Rattle.areas.proofs.Filled.{begun_filled, still_clear}
use Rattle.areas.specs.Area.{begun, filled, cleared, Clear}

-- an area begun with xs
module _ (size u : ℕ) (xs old mid : List ℕ) (e : u ≡ length xs) (l : length xs ≤ size) (p : mid ≡ begun xs old) where
  -- cleared past them it is filled with them
  pub tail_cleared : (new : List ℕ) → new ≡ cleared u size mid → new ≡ filled size xs old
  tail_cleared new q = q ∙ ap₂ (λ (k : ℕ) (ys : List ℕ). cleared k size ys) e p ∙ begun_filled size xs old l

  -- where it was clear before, it is clear past them
  pub tail_clear : Clear size old → cleared u size mid ≡ mid
  tail_clear z = still_clear u size old mid z (ap (drop u) p ∙ drop_begun u xs old (omega arith)) (omega arith)
