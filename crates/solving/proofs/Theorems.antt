-- Demands 1 and 3, each one claim of specs/Claims.antt, for any lent folding table.
-- Assumes nothing.
use mathlib.Core.Path.{◌≡◌, refl}
use mathlib.Core.Logic.{◌↔◌}
use mathlib.Core.List.{List}
use Prim.Native.Nat.{ℕ}
use Rattle.limits.specs.Cause.{OneOf, fault_causes, text_causes}
use Rattle.limits.proofs.Causes.{without, inside, one_inside}
use Rattle.grammar.specs.Bytes.{Bytes, letters}
use Rattle.tables.specs.Reading.{FirstFault}
use Rattle.tables.proofs.Calls.{refusal_fault, fault_refusal}
use Rattle.solving.specs.Solve.{SolveAreas, solve_call}
use Rattle.solving.specs.SolveClaims.{InRange}
use Rattle.solving.specs.Claims.{Demands}
use Rattle.solving.proofs.Judging as Judging
use Rattle.solving.proofs.Past as Past
use Rattle.solving.proofs.Sizes as Sizes
use Rattle.solving.proofs.Holds as Holds
use Rattle.solving.proofs.Decimal as Decimal
use Rattle.solving.proofs.Lists as Lists
use Rattle.solving.proofs.Rounds as Rounds
use Rattle.solving.proofs.Plain as Plain

-- a fault of a line is a cause of the text
pub fault_text : (q : ℕ) → OneOf q fault_causes → OneOf q text_causes
unfolding inside without
fault_text q m = one_inside q fault_causes text_causes refl m

-- the claim on the causes of a text, at the faults of a line
solve_faults : (table : List ℕ) (t : Bytes) (k : ℕ) (old : SolveAreas) (q line : ℕ) → OneOf q fault_causes
    → (((solve_call table t k old).answer.number ≡ q) × ((solve_call table t k old).answer.line ≡ line))
    ↔ (InRange table t k old × FirstFault (letters table) t q line)
solve_faults table t k old q line m =
    let text = (Judging.solve_judges table t k old).text q line (fault_text q m) in (
      λ e. let x = text.0 e in (x.0, refusal_fault (letters table) t q line m x.1),
      λ x. text.1 (x.0, fault_refusal (letters table) t q line x.1),
    )

pub books_solved : (table : List ℕ) → Demands table
books_solved table = record {
  judges = Judging.solve_judges table;
  faults = solve_faults table;
  untouched = Past.solve_past table;
  sizes = Sizes.solve_sizes table;
  holds = Holds.solve_holds table;
  decimals = Decimal.decimals;
  lists = Lists.solve_lists table;
  rounds = Rounds.solve_rounds table;
  plain_calls = Plain.plain_calls;
  plain_sizes = Sizes.plain_sizes;
  plain_holds_lem = Holds.plain_holds_lem table;
  alike = λ t k k' old old' z. Holds.alike table t k old z k' old';
  alike_plain = Holds.alike_plain table;
}
