-- What is claimed of the plain route: demands 1 and 3. Proved in proofs/Plain.antt and proofs/Holds.antt.
-- Assumes nothing.
use Rattle.std.specs.Prelude.{◌≡◌, ◌↔◌, ◌⊎◌, true, false, List, ℕ, suc, ◌+◌, ◌≤◌, ◌<◌, length, drop}
use Rattle.limits.specs.Book.{row_words}
use Rattle.limits.specs.Cause.{OneOf, plain_causes}
use Rattle.sets.specs.Set.{count, empty_set}
use Rattle.sets.specs.Steps.{First}
use Rattle.program.specs.Program.{Program, InEveryModel, consequence}
use Rattle.grammar.specs.Bytes.{Bytes}
use Rattle.tables.specs.Areas.{RuleTables, Counts}
use Rattle.systems.specs.Rounds.{model_in}
use Rattle.systems.specs.Claims.{TablesLong, StandardFormed}
use Rattle.solving.specs.Plain.{PlainOutcome}
use Rattle.solving.specs.Models.{InEveryModelOf}
use Rattle.solving.specs.Held.{HeldIn}

-- areas of their stated sizes, or longer
abbrev pub PlainLong : RuleTables → List ℕ → Type 0
PlainLong tables model = TablesLong tables × (row_words ≤ length model)

-- The plain route on any tables: r is what the call returns and leaves, p the program that the tables give.
pub record PlainCalls (tables : RuleTables) (counts : Counts) (model : List ℕ) (p : Program) (r : PlainOutcome) : Type 0 where
  pub accepts : (r.number ≡ 0) ↔ (PlainLong tables model × StandardFormed tables counts)
  pub short : (r.number ≡ 1) ↔ (PlainLong tables model → ⊥)
  pub ill : (r.number ≡ 10) ↔ (PlainLong tables model × (StandardFormed tables counts → ⊥))
  -- 0 and these are all its numbers
  pub no_other : (r.number ≡ 0) ⊎ OneOf r.number plain_causes
  pub kept : (r.number ≡ 0 → ⊥) → (r.held ≡ 0) × (r.rounds ≡ 0) × (r.model ≡ model)
  -- a name is held exactly where every model has it; nothing from the names on; what lies past the four words is as it was
  pub holds : r.number ≡ 0 → (a : ℕ) → a < counts.names → (model_in r.model a ≡ true) ↔ InEveryModel p a
  pub past : r.number ≡ 0 → (a : ℕ) → counts.names ≤ a → model_in r.model a ≡ false
  pub rest : drop row_words r.model ≡ drop row_words model
  pub count_held : r.number ≡ 0 → r.held ≡ count counts.names (model_in r.model)
  -- the rounds are the first that changes nothing, counted from the empty set
  pub first : r.number ≡ 0 → (q : ℕ) × (r.rounds ≡ suc q) × First counts.names (consequence p) empty_set q
  pub bound : r.number ≡ 0 → r.rounds ≤ counts.names + 1

-- Demand 3 for the plain route: given the tables read from a book, it holds exactly the names in every model of the book's lines.
pub record PlainHolds (fold : ℕ → ℕ) (t : Bytes) (spellings : Bytes) (n : ℕ) (r : PlainOutcome) : Type 0 where
  pub accepts : r.number ≡ 0
  pub holds : (x : Bytes) → HeldIn spellings n r.model x ↔ InEveryModelOf fold t x
  pub counts : r.held ≡ count n (model_in r.model)
  pub bound : r.rounds ≤ n + 1
