-- What is claimed of a monotone step on finite sets that rises from its start; proved in proofs/Theorems.antt.
-- Assumes nothing.
use Rattle.std.specs.Prelude.{◌≡◌, ℕ, suc, ◌≤◌}
use Rattle.sets.specs.Set.{Set, Within, count, union}
use Rattle.sets.specs.Steps.{after, rounds, reached, First, Least}

pub record Rising (n : ℕ) (F : Set → Set) (f : Set) : Type 0 where
  -- the computed rounds are the first that changes nothing, and that one is counted
  pub first : (q : ℕ) × (rounds n F f ≡ suc q) × First n F f q
  -- the set reached is the least that has the start and is closed
  pub least : Least n F f (reached n F f)
  -- at most one round more than there are atoms that can join
  pub bound : (J : Set) → ((t : ℕ) → Within n (after t F f) (union f J)) → rounds n F f ≤ suc (count n J)
