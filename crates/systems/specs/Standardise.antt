-- The standardise call: the rows of the program that heads and bodies give.
-- Document 01: "Standardising leaves the start set in the model area."
-- Assumes nothing.
use Rattle.std.specs.Prelude.{Bool, not, ◌&&◌, ◌||◌, ℕ, ◌*◌, eqb, leb, ltb, length, get_or}
use Rattle.limits.specs.Book.{names, rules, atoms, word_bits, row_words, body_words, body_area, row_area}
use Rattle.sets.specs.Set.{pick, every, exists, within}
use Rattle.program.specs.Program.{Program}
use Rattle.program.specs.System as System
use Rattle.program.specs.Standard.{all_row, any_row, start_set, standard}
use Rattle.areas.specs.Area.{filled}
use Rattle.tables.specs.Areas.{RuleTables, Counts, program_in}
use Rattle.systems.specs.Rows.{RowAreas, row_in, packed}
use Rattle.systems.specs.Rounds.{with_model, short_system}

-- what the call returns and leaves
pub record StandardOutcome : Type 0 where
  pub number : ℕ
  pub atoms : ℕ
  pub c : ℕ
  pub h : ℕ
  pub areas : RowAreas

-- heads or bodies shorter than their stated size
unfoldable pub short_rules : RuleTables → Bool
short_rules tables = ltb (length tables.heads) rules || ltb (length tables.bodies) body_area

-- an area shorter than its stated size
unfoldable pub short_tables : RuleTables → RowAreas → Bool
short_tables tables o = short_rules tables || short_system o

-- rule entry j: its head and its body's bits are below the name count; at or past the rule count it is zero
unfoldable pub formed_entry : RuleTables → Counts → ℕ → Bool
formed_entry tables counts j =
    pick (ltb j counts.rules)
    (ltb (get_or tables.heads j 0) counts.names
    && within (body_words * word_bits) (row_in body_words tables.bodies j) (λ a. ltb a counts.names))
    (eqb (get_or tables.heads j 0) 0 && not (exists (body_words * word_bits) (row_in body_words tables.bodies j)))

-- the counts are within their limits, and every entry is in order
unfoldable pub formed_tables : RuleTables → Counts → Bool
formed_tables tables counts =
    (leb counts.names names && leb counts.rules rules) && every rules (formed_entry tables counts)

-- a refusal leaves all as it was
abbrev pub standard_refusal : ℕ → RowAreas → StandardOutcome
standard_refusal number o = record { number = number; atoms = 0; c = 0; h = 0; areas = o }

-- the rows of a program, zeros to the stated sizes, and the start set in the model area
unfoldable pub standard_rows : Program → RowAreas → RowAreas
standard_rows p o =
    record {
      all = filled row_area (packed row_words (standard p).atoms (all_row p)) o.all;
      any = filled row_area (packed row_words (standard p).atoms (any_row p)) o.any;
      model = with_model (start_set p) o.model;
    }

-- over 256 atoms, or the rows
unfoldable pub standard_of : Program → RowAreas → StandardOutcome
standard_of p o =
    pick (ltb atoms (standard p).atoms) (standard_refusal 8 o)
    (record {
      number = 0;
      atoms = (standard p).atoms;
      c = System.c (standard p);
      h = System.h (standard p);
      areas = standard_rows p o;
    })

-- areas too short, tables ill formed, over 256 atoms; else the rows
unfoldable pub standard_call : RuleTables → Counts → RowAreas → StandardOutcome
standard_call tables counts o =
    pick (short_tables tables o) (standard_refusal 1 o)
    (pick (formed_tables tables counts) (standard_of (program_in tables counts) o) (standard_refusal 10 o))
