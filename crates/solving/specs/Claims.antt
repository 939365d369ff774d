-- Demands 1 and 3, all claims together. Proved in proofs/Theorems.antt, for any lent folding table, any text, any fold number and areas with any
-- old contents. "Accepted" is: the number is 0.
-- Assumes nothing.
use Rattle.std.specs.Prelude.{◌≡◌, ◌↔◌, List, ℕ, ◌≤◌, length}
use Rattle.limits.specs.Book.{row_words}
use Rattle.limits.specs.Cause.{OneOf, fault_causes}
use Rattle.grammar.specs.Bytes.{Bytes, letters}
use Rattle.grammar.specs.Grammar.{Clause}
use Rattle.tables.specs.Reading.{Book, FirstFault}
use Rattle.tables.specs.Areas.{Areas, RuleTables, Counts, rules_of, read_call, program_in}
use Rattle.tables.specs.Claims.{accepted}
use Rattle.solving.specs.Plain.{plain_call}
use Rattle.solving.specs.Listing.{decimal}
use Rattle.solving.specs.Solve.{SolveAreas, solve_call}
use Rattle.solving.specs.Held.{HeldIn, Held}
use Rattle.solving.specs.PlainClaims.{PlainCalls, PlainHolds}
use Rattle.solving.specs.SolveClaims.{InRange, SolveJudges, SolvePast, SolveHolds, SolveRounds}
use Rattle.solving.specs.Sizes.{SolveSizes, PlainSizes}
use Rattle.solving.specs.ListingClaims.{Decimal, Lists}

-- All of demands 1 and 3 with a table lent, for every text, fold number and old contents of the areas.
pub record Demands (table : List ℕ) : Type 0 where
  pub decimals : (n : ℕ) → Decimal n (decimal n)
  pub judges : (t : Bytes) (k : ℕ) (old : SolveAreas) → SolveJudges table t k old (solve_call table t k old)
  -- 5, 13 and 14: each exactly where the first line that is refused has that fault
  pub faults : (t : Bytes) (k : ℕ) (old : SolveAreas) (q line : ℕ) → OneOf q fault_causes
      → (((solve_call table t k old).answer.number ≡ q) × ((solve_call table t k old).answer.line ≡ line))
      ↔ (InRange table t k old × FirstFault (letters table) t q line)
  pub untouched : (t : Bytes) (k : ℕ) (old : SolveAreas) → SolvePast old (solve_call table t k old).areas
  pub sizes : SolveSizes table
  pub holds : (t : Bytes) (k : ℕ) (old : SolveAreas) → (solve_call table t k old).answer.number ≡ 0
      → SolveHolds (letters table) t (solve_call table t k old)
  pub lists : (t : Bytes) (k : ℕ) (old : SolveAreas) → (solve_call table t k old).answer.number ≡ 0
      → Lists (solve_call table t k old) k old.listing
  pub rounds : (t : Bytes) (k : ℕ) (old : SolveAreas) (cs : List Clause) → Book (letters table) t cs
      → (solve_call table t k old).answer.number ≡ 0 → SolveRounds cs k (solve_call table t k old)
  pub plain_calls : (tables : RuleTables) (counts : Counts) (model : List ℕ)
      → PlainCalls tables counts model (program_in tables counts) (plain_call tables counts model)
  pub plain_sizes : PlainSizes
  pub plain_holds_lem : (t : Bytes) (old o : Areas) (counts : Counts) → read_call table t old ≡ accepted counts.names counts.rules o
      → (model : List ℕ) → row_words ≤ length model → PlainHolds (letters table) t o.spellings counts.names (plain_call (rules_of o) counts model)
  -- so the held names are alike under every two fold numbers, and by the plain route
  pub alike : (t : Bytes) (k k' : ℕ) (old old' : SolveAreas)
      → (solve_call table t k old).answer.number ≡ 0 → (solve_call table t k' old').answer.number ≡ 0
      → (x : Bytes) → Held (solve_call table t k old) x ↔ Held (solve_call table t k' old') x
  pub alike_plain : (t : Bytes) (k : ℕ) (old : SolveAreas) → (solve_call table t k old).answer.number ≡ 0
      → (tables o : Areas) (counts : Counts) → read_call table t tables ≡ accepted counts.names counts.rules o
      → (model : List ℕ) → row_words ≤ length model
      → (x : Bytes) → Held (solve_call table t k old) x ↔ HeldIn o.spellings counts.names (plain_call (rules_of o) counts model).model x
