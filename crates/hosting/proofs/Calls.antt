-- The calls by the solver's outcome.
-- Assumes nothing.
use mathlib.Core.Path.{◌≡◌, ap, ◌∙◌}
use mathlib.Core.List.{List}
use Prim.Native.Nat.{ℕ}
use Rattle.grammar.specs.Bytes.{Bytes}
use Rattle.solving.specs.Solve.{SolveOutcome, solve_call}
use Rattle.hosting.specs.List.{ListOutcome, own_areas, seen, list_call}
use Rattle.hosting.specs.Call.{called, host_call}

module _ (table : List ℕ) (t : Bytes) (k : ℕ) (listing : Bytes) where
  -- the solver, lent a table that is this one, answers and leaves r in its own areas
  pub list_seen : {lent : List ℕ} → lent ≡ table → (r : SolveOutcome) → r ≡ solve_call lent t k (own_areas listing) → seen r ≡ list_call table t k listing
  unfolding list_call
  list_seen same r e = ap seen (e ∙ ap (λ (x : List ℕ). solve_call x t k (own_areas listing)) same)

  -- the book is listed as r says
  pub list_called : (r : ListOutcome) → r ≡ list_call table t k listing → called r ≡ host_call table t k listing
  unfolding host_call
  list_called r e = ap called e
