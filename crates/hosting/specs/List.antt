-- A book listed: the solver lent a listing area, all other areas its own. Document 01: "calls with text bytes, a fold number and a listing
-- area (the other areas are the call's own)".
-- Assumes nothing.
use Rattle.std.specs.Prelude.{List, ℕ}
use Rattle.grammar.specs.Bytes.{Bytes}
use Rattle.solving.specs.Solve.{SolveAreas, SolveOutcome, solve_call}
use Rattle.solving.specs.Stated.{stated_areas}

-- areas of the call's own, zero, beside a listing area
abbrev pub own_areas : Bytes → SolveAreas
own_areas = stated_areas 0

-- the number of a refusal with its line, 0 for none, and the listing area afterwards
pub record ListOutcome : Type 0 where
  pub number : ℕ
  pub line : ℕ
  pub listing : Bytes

-- what is seen of the solver's outcome
abbrev pub seen : SolveOutcome → ListOutcome
seen r = record { number = r.answer.number; line = r.answer.line; listing = r.areas.listing }

-- the book t listed after k folds, by the letters of a table
unfoldable pub list_call : List ℕ → Bytes → ℕ → Bytes → ListOutcome
list_call table t k listing = seen (solve_call table t k (own_areas listing))
