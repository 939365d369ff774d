-- Held names. Document 01: "a name is held when its bit is set in the model area; bits from n on are helpers."
-- Assumes nothing.
use Rattle.std.specs.Prelude.{◌≡◌, true, List, ℕ, ◌<◌}
use Rattle.grammar.specs.Bytes.{Bytes}
use Rattle.tables.specs.Areas.{look_up}
use Rattle.systems.specs.Rounds.{model_in}
use Rattle.solving.specs.Solve.{SolveOutcome}

-- x is the look-up's spelling of a number below n whose bit is set
abbrev pub HeldIn : Bytes → ℕ → List ℕ → Bytes → Type 0
HeldIn spellings n model x = (a : ℕ) × (a < n) × (model_in model a ≡ true) × (look_up spellings n a ≡ x)

-- after the solver
abbrev pub Held : SolveOutcome → Bytes → Type 0
Held r x = HeldIn r.areas.tables.spellings r.answer.names r.areas.model x
