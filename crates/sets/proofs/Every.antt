-- A test of every number below n, a number at a time.
-- Assumes nothing.
use mathlib.Core.Path.{◌≡◌, refl, sym, ap, ◌∙◌}
use mathlib.Core.Bool.{true, false}
use Prim.Native.Nat.{ℕ, ◌+◌, ◌≤◌, ◌<◌}
use native.Mathlib.Nat.{le_antisymm}
use native.Mathlib.Numerals.{add-one}
use Rattle.sets.specs.Set.{Set, every}
use Rattle.sets.proofs.Logic.{and_make, not-true, clash}
use Rattle.sets.proofs.Tests.{every_at}

-- before the first there is nothing to test
pub every_none : (p : Set) → every 0 p ≡ true
unfolding every
every_none p = refl

-- one that passes
pub every_on : (i : ℕ) (p : Set) → every i p ≡ true → p i ≡ true → every (i + 1) p ≡ true
unfolding every
every_on i p h e = ap (λ (k : ℕ). every k p) (add-one i) ∙ and_make e h

-- one that fails settles it
pub every_off : (i n : ℕ) (p : Set) → i < n → p i ≡ false → false ≡ every n p
every_off i n p l e = sym (not-true (every n p) (λ t. clash (every_at n p t i l) e))

-- past the last
pub every_end : (i n : ℕ) (p : Set) → i ≤ n → n ≤ i → every i p ≡ true → true ≡ every n p
every_end i n p l m h = sym h ∙ ap (λ (k : ℕ). every k p) (le_antisymm l m)
