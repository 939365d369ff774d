-- What lies past the stated sizes. Document 01: "what lies past the sizes above is untouched". Proved in proofs/Sizes.antt.
-- Assumes nothing.
use Rattle.std.specs.Prelude.{◌≡◌, List, ◌++◌, ℕ, take, drop}
use Rattle.limits.specs.Book.{row_words, row_area}
use Rattle.tables.specs.Areas.{RuleTables, Counts}
use Rattle.tables.specs.Sizes.{stated_rules}
use Rattle.systems.specs.Rows.{RowAreas}
use Rattle.systems.specs.Fold.{FoldOutcome, fold_call}
use Rattle.systems.specs.Rounds.{RoundsOutcome, rounds_call}
use Rattle.systems.specs.Standardise.{StandardOutcome, standard_call}

-- what the fold call returns and leaves of areas cut to their stated sizes, with what was cut off put after
abbrev pub fold_with_rest : List ℕ → List ℕ → FoldOutcome → FoldOutcome
fold_with_rest all spare r =
    record { number = r.number; all = r.all ++ drop row_area all; spare = r.spare ++ drop row_area spare }

-- the same for the rounds call
abbrev pub rounds_with_rest : List ℕ → RoundsOutcome → RoundsOutcome
rounds_with_rest model r = record { number = r.number; rounds = r.rounds; model = r.model ++ drop row_words model }

-- areas of rows, cut to their stated sizes
abbrev pub stated_rows : RowAreas → RowAreas
stated_rows o = record { all = take row_area o.all; any = take row_area o.any; model = take row_words o.model }

-- areas s that were cut so, with what was cut off o put after
abbrev pub rows_with_rest : RowAreas → RowAreas → RowAreas
rows_with_rest o s =
    record {
      all = s.all ++ drop row_area o.all;
      any = s.any ++ drop row_area o.any;
      model = s.model ++ drop row_words o.model;
    }

-- the same for the standardise call
abbrev pub standard_with_rest : RowAreas → StandardOutcome → StandardOutcome
standard_with_rest o r = record { number = r.number; atoms = r.atoms; c = r.c; h = r.h; areas = rows_with_rest o r.areas }

-- what lies past the stated sizes is neither judged nor touched: each call is the call on areas cut to them, with the rest put after
pub record StatedSizes : Type 0 where
  pub fold : (all spare : List ℕ) (m k : ℕ)
      → fold_call all spare m k ≡ fold_with_rest all spare (fold_call (take row_area all) (take row_area spare) m k)
  pub rounds : (o : RowAreas) (m : ℕ) → rounds_call o m ≡ rounds_with_rest o.model (rounds_call (stated_rows o) m)
  pub standardise : (tables : RuleTables) (counts : Counts) (o : RowAreas)
      → standard_call tables counts o ≡ standard_with_rest o (standard_call (stated_rules tables) counts (stated_rows o))
