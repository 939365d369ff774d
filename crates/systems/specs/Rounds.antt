-- The rounds call. Document 01: "Rounds start from the start set and stop at the first round that changes nothing. That last round is counted."
-- Assumes nothing.
use Rattle.std.specs.Prelude.{Bool, ◌&&◌, ◌||◌, List, ℕ, ◌*◌, leb, ltb, length}
use Rattle.limits.specs.Book.{atoms, word_bits, row_words, row_area}
use Rattle.sets.specs.Set.{Set, pick, within, empty_set}
use Rattle.areas.specs.Area.{part, begun}
use Rattle.words.specs.Row.{row, pack}
use Rattle.program.specs.System.{System, round, rounds_of, held_by}
use Rattle.systems.specs.Rows.{RowAreas, row_in, below, formed_rows}

-- the set in a model area
abbrev pub model_in : List ℕ → Set
model_in model = row (part 0 row_words model)

-- the model area with the set f in it
unfoldable pub with_model : Set → List ℕ → List ℕ
with_model f model = begun (pack row_words f) model

-- The system that rows, a start set and an atom count give. Which atoms c counts cannot be read off the rows.
abbrev pub system_in : RowAreas → ℕ → System
system_in o m =
    record { atoms = m; all = row_in row_words o.all; any = row_in row_words o.any; start = model_in o.model; counted = empty_set }

-- what the call returns and leaves
pub record RoundsOutcome : Type 0 where
  pub number : ℕ
  pub rounds : ℕ
  pub model : List ℕ

-- an area shorter than its stated size
unfoldable pub short_system : RowAreas → Bool
short_system o = ltb (length o.all) row_area || (ltb (length o.any) row_area || ltb (length o.model) row_words)

-- the count is within its limit, and neither a bit, of the start set too, nor a row lies at or past it
unfoldable pub formed_system : RowAreas → ℕ → Bool
formed_system o m =
    leb m atoms
    && (formed_rows row_words atoms m o.all
    && (formed_rows row_words atoms m o.any && within (row_words * word_bits) (model_in o.model) (λ k. ltb k m)))

-- no start atom is lost in round one
unfoldable pub start_kept : System → Bool
start_kept s = within s.atoms s.start (round s s.start)

-- a refusal leaves all as it was
abbrev pub rounds_refusal : ℕ → List ℕ → RoundsOutcome
rounds_refusal number model = record { number = number; rounds = 0; model = model }

-- the rounds of a system, and the last set in the model area
unfoldable pub rounds_made : System → List ℕ → RoundsOutcome
rounds_made s model = record { number = 0; rounds = rounds_of s; model = with_model (below s.atoms (held_by s)) model }

-- areas too short, rows ill formed, a start atom lost; else the rounds
unfoldable pub rounds_call : RowAreas → ℕ → RoundsOutcome
rounds_call o m =
    pick (short_system o) (rounds_refusal 1 o.model)
    (pick (formed_system o m)
    (pick (start_kept (system_in o m)) (rounds_made (system_in o m) o.model) (rounds_refusal 11 o.model))
    (rounds_refusal 10 o.model))
