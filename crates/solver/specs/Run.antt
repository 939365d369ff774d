-- The middle of the call. Document 01: "The solver reads, standardises, folds, runs and lists", and "After it .. "all" rows folded, spare
-- zero, the model area the last set."
-- Assumes nothing.
use Rattle.std.specs.Prelude.{◌≡◌, true, List, [], ℕ, ◌≤◌, ltb, length}
use Rattle.limits.specs.Book.{atoms, folds, row_words, row_area}
use Rattle.sets.specs.Set.{pick}
use Rattle.program.specs.Program.{Program}
use Rattle.program.specs.System.{System, folded, rounds_of, held_by}
use Rattle.program.specs.System as System
use Rattle.program.specs.Standard.{standard}
use Rattle.areas.specs.Area.{filled}
use Rattle.tables.specs.Areas.{RuleTables, Counts}
use Rattle.systems.specs.Rows.{RowAreas, packed, below}
use Rattle.systems.specs.Rounds.{with_model}
use Rattle.systems.specs.Standardise.{formed_tables}
use Rattle.systems.specs.Claims.{StandardLong, RoundsLong}

-- the areas of rows, and that of the start set and the last set
pub record RunAreas : Type 0 where
  pub all : List ℕ
  pub any : List ℕ
  pub spare : List ℕ
  pub model : List ℕ

-- those that standardising is lent
abbrev pub rows_in : RunAreas → RowAreas
rows_in o = record { all = o.all; any = o.any; model = o.model }

-- tables in order, at most 8 folds, and areas of their stated sizes or longer
pub record RunReady (tables : RuleTables) (counts : Counts) (k : ℕ) (o : RunAreas) : Type 0 where
  pub long : StandardLong tables (rows_in o)
  pub spare : row_area ≤ length o.spare
  pub few : k ≤ folds
  pub formed : formed_tables tables counts ≡ true

-- the areas alone, for tables that are known to be in order
pub record RowsReady (k : ℕ) (o : RunAreas) : Type 0 where
  pub long : RoundsLong (rows_in o)
  pub spare : row_area ≤ length o.spare
  pub few : k ≤ folds

-- the number of a refusal, 0 for none, the counts, and what is left
pub record RunOutcome : Type 0 where
  pub number : ℕ
  pub atoms : ℕ
  pub rounds : ℕ
  pub c : ℕ
  pub h : ℕ
  pub areas : RunAreas

-- a refusal leaves all as it was
abbrev pub run_refusal : ℕ → RunAreas → RunOutcome
run_refusal number old = record { number = number; atoms = 0; rounds = 0; c = 0; h = 0; areas = old }

-- the areas after the rounds over the rows s
unfoldable pub rows_left : System → RunAreas → RunAreas
rows_left s old =
    record {
      all = filled row_area (packed row_words s.atoms s.all) old.all;
      any = filled row_area (packed row_words s.atoms s.any) old.any;
      spare = filled row_area [] old.spare;
      model = with_model (below s.atoms (held_by s)) old.model;
    }

-- the rounds over the rows s are made
unfoldable pub run_made : System → RunAreas → RunOutcome
run_made s old =
    record {
      number = 0;
      atoms = s.atoms;
      rounds = rounds_of s;
      c = System.c s;
      h = System.h s;
      areas = rows_left s old;
    }

-- a program after k folds: over 256 atoms, or the rounds over its rows
unfoldable pub run_tables : Program → ℕ → RunAreas → RunOutcome
run_tables p k old = pick (ltb atoms (standard p).atoms) (run_refusal 8 old) (run_made (folded k (standard p)) old)
