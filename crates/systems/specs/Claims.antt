-- What is claimed of the calls on tables and rows; proved in proofs/Theorems.antt. Each record has every number exactly where document 01
-- gives it, what is left then, and what the rows are as sets.
-- Assumes nothing.
use Rattle.std.specs.Prelude.{◌≡◌, ◌↔◌, ◌⊎◌, true, false, List, ◌++◌, ℕ, suc, ◌+◌, ◌≤◌, ◌<◌, leb, length, get_or, drop, replicate}
use Rattle.limits.specs.Book.{names, rules, atoms, folds, row_words, body_words, body_area, row_area}
use Rattle.limits.specs.Cause.{OneOf, standard_causes, fold_causes, rounds_causes}
use Rattle.sets.specs.Set.{Within, Same, count}
use Rattle.sets.specs.Steps.{First, Least}
use Rattle.program.specs.Program.{Program, WellFormed, InEveryModel, size}
use Rattle.program.specs.System.{System, Regular, round, rows_after, folded, rounds_of, held_by}
use Rattle.program.specs.Standard.{ways, has_body, counted_atoms, all_row, any_row, start_set, standard}
use Rattle.tables.specs.Areas.{RuleTables, Counts, program_in}
use Rattle.systems.specs.Rows.{RowAreas, row_in}
use Rattle.systems.specs.Fold.{FoldOutcome, fold_call}
use Rattle.systems.specs.Rounds.{RoundsOutcome, model_in, system_in, rounds_call}
use Rattle.systems.specs.Standardise.{StandardOutcome, standard_call}
use Rattle.systems.specs.Sizes.{StatedSizes}

-- neither a bit nor a row at or past the count m
abbrev pub InCount : ℕ → List ℕ → Type 0
InCount m area = (i k : ℕ) → i < atoms → row_in row_words area i k ≡ true → (i < m) × (k < m)

-- The fold call's areas, and its rows.
abbrev pub FoldLong : List ℕ → List ℕ → Type 0
FoldLong all spare = (row_area ≤ length all) × (row_area ≤ length spare)

abbrev pub FoldFormed : List ℕ → ℕ → Type 0
FoldFormed all m = (m ≤ atoms) × InCount m all

-- demands 1 and 2 for folding: r is what the call returns and leaves
pub record Folds (all spare : List ℕ) (m k : ℕ) (r : FoldOutcome) : Type 0 where
  pub accepts : (r.number ≡ 0) ↔ (FoldLong all spare × (k ≤ folds) × FoldFormed all m)
  pub short : (r.number ≡ 1) ↔ (FoldLong all spare → ⊥)
  pub over : (r.number ≡ 9) ↔ (FoldLong all spare × (folds < k))
  pub ill : (r.number ≡ 10) ↔ (FoldLong all spare × (k ≤ folds) × (FoldFormed all m → ⊥))
  -- 0 and these are all its numbers
  pub no_other : (r.number ≡ 0) ⊎ OneOf r.number fold_causes
  pub kept : (r.number ≡ 0 → ⊥) → (r.all ≡ all) × (r.spare ≡ spare)
  -- each row is the definition's after k folds, over the rows as they were
  pub rows : r.number ≡ 0 → (i : ℕ) → i < atoms → (a : ℕ) → row_in row_words r.all i a ≡ rows_after k m (row_in row_words all) i a
  -- the spare is zero over its stated size, for every k
  pub zero_spare : r.number ≡ 0 → r.spare ≡ replicate row_area 0 ++ drop row_area spare

-- The rounds call's areas, and its rows and start set.
abbrev pub RoundsLong : RowAreas → Type 0
RoundsLong o = (row_area ≤ length o.all) × (row_area ≤ length o.any) × (row_words ≤ length o.model)

abbrev pub RoundsFormed : RowAreas → ℕ → Type 0
RoundsFormed o m = (m ≤ atoms) × InCount m o.all × InCount m o.any × ((k : ℕ) → model_in o.model k ≡ true → k < m)

-- a start atom is lost in round one
abbrev pub Lost : System → Type 0
Lost s = (i : ℕ) × (i < s.atoms) × (s.start i ≡ true) × (round s s.start i ≡ false)

-- demand 1 and the counted rounds for any rows: r is what the call returns and leaves, s the system that the rows give
pub record Runs (o : RowAreas) (m : ℕ) (s : System) (r : RoundsOutcome) : Type 0 where
  pub accepts : (r.number ≡ 0) ↔ (RoundsLong o × RoundsFormed o m × Within m s.start (round s s.start))
  pub short : (r.number ≡ 1) ↔ (RoundsLong o → ⊥)
  pub ill : (r.number ≡ 10) ↔ (RoundsLong o × (RoundsFormed o m → ⊥))
  pub lost : (r.number ≡ 11) ↔ (RoundsLong o × RoundsFormed o m × Lost s)
  -- 0 and these are all its numbers
  pub no_other : (r.number ≡ 0) ⊎ OneOf r.number rounds_causes
  pub kept : (r.number ≡ 0 → ⊥) → (r.rounds ≡ 0) × (r.model ≡ o.model)
  -- the rounds are the first that changes nothing, and that one is counted
  pub first : r.number ≡ 0 → (q : ℕ) × (r.rounds ≡ suc q) × First m (round s) s.start q
  pub bound : r.number ≡ 0 → r.rounds ≤ m + 1
  -- the last set is the least that has the start set and is closed under a round, with nothing at or past the count
  pub least : r.number ≡ 0 → Least m (round s) s.start (model_in r.model)
  pub past : r.number ≡ 0 → (k : ℕ) → m ≤ k → model_in r.model k ≡ false

-- The standardise call's areas, and its tables.
abbrev pub TablesLong : RuleTables → Type 0
TablesLong tables = (rules ≤ length tables.heads) × (body_area ≤ length tables.bodies)

abbrev pub StandardLong : RuleTables → RowAreas → Type 0
StandardLong tables o = TablesLong tables × RoundsLong o

pub record StandardFormed (tables : RuleTables) (counts : Counts) : Type 0 where
  pub names_limit : counts.names ≤ names
  pub rules_limit : counts.rules ≤ rules
  pub head : (j : ℕ) → j < counts.rules → get_or tables.heads j 0 < counts.names
  pub body : (j a : ℕ) → j < counts.rules → row_in body_words tables.bodies j a ≡ true → a < counts.names
  pub head_unused : (j : ℕ) → counts.rules ≤ j → j < rules → get_or tables.heads j 0 ≡ 0
  pub body_unused : (j a : ℕ) → counts.rules ≤ j → j < rules → row_in body_words tables.bodies j a ≡ false

-- the system in the areas, with the atoms that c counts by the rules
abbrev pub standard_in : Program → StandardOutcome → System
standard_in p r =
    record {
      atoms = r.atoms;
      all = row_in row_words r.areas.all;
      any = row_in row_words r.areas.any;
      start = model_in r.areas.model;
      counted = counted_atoms p;
    }

-- demands 1 and 2 for standardising: r is what the call returns and leaves, p the program that the tables give
pub record Standardises (tables : RuleTables) (counts : Counts) (o : RowAreas) (p : Program) (r : StandardOutcome) : Type 0 where
  pub accepts : (r.number ≡ 0) ↔ (StandardLong tables o × StandardFormed tables counts × ((standard p).atoms ≤ atoms))
  pub short : (r.number ≡ 1) ↔ (StandardLong tables o → ⊥)
  pub ill : (r.number ≡ 10) ↔ (StandardLong tables o × (StandardFormed tables counts → ⊥))
  pub over : (r.number ≡ 8) ↔ (StandardLong tables o × StandardFormed tables counts × (atoms < (standard p).atoms))
  -- 0 and these are all its numbers
  pub no_other : (r.number ≡ 0) ⊎ OneOf r.number standard_causes
  pub kept : (r.number ≡ 0 → ⊥) → (r.atoms ≡ 0) × (r.c ≡ 0) × (r.h ≡ 0) × (r.areas ≡ o)
  pub program : r.number ≡ 0 → WellFormed p
  -- the counts, by the rules
  pub count_atoms : r.number ≡ 0 → r.atoms ≡ (standard p).atoms
  pub count_c : r.number ≡ 0 → r.c ≡ count (size p) (has_body p)
  pub count_h : r.number ≡ 0 → r.h ≡ count counts.names (λ a. leb 2 (ways p a))
  -- each row is the definition's, and a row past the atoms is empty
  pub all_row_lem : r.number ≡ 0 → (i : ℕ) → i < r.atoms → (a : ℕ) → row_in row_words r.areas.all i a ≡ all_row p i a
  pub any_row_lem : r.number ≡ 0 → (i : ℕ) → i < r.atoms → (a : ℕ) → row_in row_words r.areas.any i a ≡ any_row p i a
  pub all_past : r.number ≡ 0 → (i : ℕ) → r.atoms ≤ i → i < atoms → (a : ℕ) → row_in row_words r.areas.all i a ≡ false
  pub any_past : r.number ≡ 0 → (i : ℕ) → r.atoms ≤ i → i < atoms → (a : ℕ) → row_in row_words r.areas.any i a ≡ false
  pub start : r.number ≡ 0 → (a : ℕ) → model_in r.areas.model a ≡ start_set p a
  -- what the mathematics asks of a system holds of the rows
  pub regular : r.number ≡ 0 → Regular (standard_in p r)

-- folding, and then the rounds, after standardising
abbrev pub fold_after : StandardOutcome → List ℕ → ℕ → FoldOutcome
fold_after r spare k = fold_call r.areas.all spare r.atoms k

abbrev pub rounds_after : StandardOutcome → List ℕ → ℕ → RoundsOutcome
rounds_after r spare k =
    rounds_call (record { all = (fold_after r spare k).all; any = r.areas.any; model = r.areas.model }) r.atoms

-- The three calls one after another, for the solver: after a successful standardising neither 10 nor 11 can occur, and the rounds and the
-- last set are those of the definitions, so a name is held exactly where every model of the program has it.
pub record Stages (p : Program) (r : StandardOutcome) (spare : List ℕ) (k : ℕ) : Type 0 where
  pub folds_number : (fold_after r spare k).number ≡ 0
  pub rounds_number : (rounds_after r spare k).number ≡ 0
  -- demand 2, both steps: the folded rows are the definition's k folds of the program's rows
  pub rows : (i : ℕ) → i < r.atoms → Same r.atoms (row_in row_words (fold_after r spare k).all i) ((folded k (standard p)).all i)
  pub rounds : (rounds_after r spare k).rounds ≡ rounds_of (folded k (standard p))
  pub held : Same r.atoms (model_in (rounds_after r spare k).model) (held_by (folded k (standard p)))
  pub names : (a : ℕ) → a < p.names → (model_in (rounds_after r spare k).model a ≡ true) ↔ InEveryModel p a

-- what is proved of the calls, for all areas and numbers
pub record Calls : Type 0 where
  pub standardises : (tables : RuleTables) (counts : Counts) (o : RowAreas)
      → Standardises tables counts o (program_in tables counts) (standard_call tables counts o)
  pub folds_rows : (all spare : List ℕ) (m k : ℕ) → Folds all spare m k (fold_call all spare m k)
  pub runs : (o : RowAreas) (m : ℕ) → Runs o m (system_in o m) (rounds_call o m)
  pub stages : (tables : RuleTables) (counts : Counts) (o : RowAreas) (spare : List ℕ) (k : ℕ)
      → (standard_call tables counts o).number ≡ 0 → row_area ≤ length spare → k ≤ folds
      → Stages (program_in tables counts) (standard_call tables counts o) spare k
  pub stated_sizes : StatedSizes
