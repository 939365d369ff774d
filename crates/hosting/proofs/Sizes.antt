-- What lies past the stated size of the listing area is neither judged nor touched by the call for C.
-- Assumes nothing.
use mathlib.Core.Path.{◌≡◌, ap, ◌∙◌}
use mathlib.Core.List.{List}
use Prim.Native.Nat.{ℕ}
use native.Mathlib.Omega.{arith}
use lib.ListN.{take, replicate, length-replicate}
use lib.Seq.{take_all}
use Rattle.limits.specs.Book.{rules, row_words, name_area, body_area, row_area, listing_bytes}
use Rattle.grammar.specs.Bytes.{Bytes}
use Rattle.solving.specs.Solve.{SolveAreas, SolveOutcome, solve_call}
use Rattle.solving.specs.Sizes.{cut_areas, solve_with_rest}
use Rattle.solving.proofs.Sizes.{areas_first}
use Rattle.hosting.specs.List.{own_areas, seen, list_call}
use Rattle.hosting.specs.Call.{called, host_call}
use Rattle.hosting.specs.Claims.{call_with_rest}

-- an area of exactly its stated size is not cut
zeros_cut : (n : ℕ) → take n (replicate {A = ℕ} n 0) ≡ replicate n 0
zeros_cut n = take_all n (replicate n 0) (omega (arith, length-replicate {A = ℕ} n 0))

-- so of the call's areas only the listing area is
own_cut : (old : Bytes) → cut_areas (own_areas old) ≡ own_areas (take listing_bytes old)
own_cut old i =
    record {
      tables = record { spellings = zeros_cut name_area i; heads = zeros_cut rules i; bodies = zeros_cut body_area i };
      all = zeros_cut row_area i;
      any = zeros_cut row_area i;
      spare = zeros_cut row_area i;
      model = zeros_cut row_words i;
      listing = take listing_bytes old;
    }

-- the call
pub call_sizes : (table : List ℕ) (t : Bytes) (k : ℕ) (old : Bytes)
    → host_call table t k old ≡ call_with_rest old (host_call table t k (take listing_bytes old))
unfolding host_call list_call
call_sizes table t k old =
    ap (λ (r : SolveOutcome). called (seen r)) (areas_first table t k (own_areas old))
    ∙ ap (λ (o : SolveAreas). called (seen (solve_with_rest (own_areas old) (solve_call table t k o)))) (own_cut old)
