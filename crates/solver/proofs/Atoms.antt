-- Over 256 atoms, or not: what an outcome is that goes by this test, read off the number that it answers.
-- Assumes nothing.
use mathlib.Core.Path.{◌≡◌, ap, ◌∙◌}
use Prim.Native.Nat.{ℕ, ◌≤◌, ◌<◌}
use native.Mathlib.Omega.{arith}
use lib.Dec.{ltb}
use borrow.Author.Tests.{ltb-true, ltb-false}
use Rattle.limits.specs.Book.{atoms}
use Rattle.sets.specs.Set.{pick}
use Rattle.sets.proofs.Logic.{either, pick_true, pick_false}

-- m atoms: `bad` answers 8, `fine` 0
module _ {X : Type 0} (number : X → ℕ) (m : ℕ) (bad fine : X) (refuses : number bad ≡ 8) (takes : number fine ≡ 0) {x : X}
    (e : x ≡ pick (ltb atoms m) bad fine) where
  pub over : (number x ≡ 0 → ⊥) → (atoms < m) × (x ≡ bad)
  over some =
      either (ltb atoms m) (λ t. (ltb-true atoms m t, e ∙ pick_true bad fine t))
      (λ t. absurd (some (ap number (e ∙ pick_false bad fine t) ∙ takes)))

  pub within : number x ≡ 0 → (m ≤ atoms) × (x ≡ fine)
  within none =
      either (ltb atoms m) (λ t. absurd (omega (arith, refuses, none, ap number (e ∙ pick_true bad fine t))))
      (λ t. (ltb-false atoms m t, e ∙ pick_false bad fine t))
