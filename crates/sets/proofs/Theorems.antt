-- The theorem on rising steps.
-- Assumes nothing.
use Prim.Native.Nat.{ℕ}
use Rattle.sets.specs.Set.{Set, Within}
use Rattle.sets.specs.Steps.{Monotone}
use Rattle.sets.specs.Claims.{Rising}
use Rattle.sets.proofs.Rounds.{rounds_first, reached_least, rounds_join}

pub rising : (n : ℕ) (F : Set → Set) (f : Set) → Monotone n F → Within n f (F f) → Rising n F f
rising n F f mono rises = record {
  first = rounds_first n F f mono rises;
  least = reached_least n F f mono rises;
  bound = rounds_join n F f mono rises;
}
