-- What lies past the stated sizes of the solver's areas. Document 01: "what lies past the sizes above is untouched". Proved in
-- proofs/Sizes.antt.
-- Assumes nothing.
use Rattle.std.specs.Prelude.{◌≡◌, List, ◌++◌, ℕ, take, drop}
use Rattle.limits.specs.Book.{letter_bytes, row_words, row_area, listing_bytes}
use Rattle.grammar.specs.Bytes.{Bytes}
use Rattle.tables.specs.Areas.{RuleTables, Counts}
use Rattle.tables.specs.Sizes.{stated_tables, stated_rules, tables_with_rest}
use Rattle.solving.specs.Plain.{PlainOutcome, plain_call}
use Rattle.solving.specs.Solve.{SolveAreas, SolveOutcome, solve_call}

-- the areas, cut to their stated sizes
abbrev pub cut_areas : SolveAreas → SolveAreas
cut_areas o =
    record {
      tables = stated_tables o.tables;
      all = take row_area o.all;
      any = take row_area o.any;
      spare = take row_area o.spare;
      model = take row_words o.model;
      listing = take listing_bytes o.listing;
    }

-- areas s that were cut so, with what was cut off o put after
abbrev pub areas_with_rest : SolveAreas → SolveAreas → SolveAreas
areas_with_rest o s =
    record {
      tables = tables_with_rest o.tables s.tables;
      all = s.all ++ drop row_area o.all;
      any = s.any ++ drop row_area o.any;
      spare = s.spare ++ drop row_area o.spare;
      model = s.model ++ drop row_words o.model;
      listing = s.listing ++ drop listing_bytes o.listing;
    }

-- what the solver returns and leaves of areas cut so, with what was cut off put after
abbrev pub solve_with_rest : SolveAreas → SolveOutcome → SolveOutcome
solve_with_rest o r = record { answer = r.answer; areas = areas_with_rest o r.areas }

-- what lies past the stated sizes is neither judged nor touched: the call is the call on areas cut to them, with the rest put after; and it goes
-- by the first 256 bytes of the folding table alone
abbrev pub SolveSizes : List ℕ → Type 0
SolveSizes table =
    (t : Bytes) (k : ℕ) (old : SolveAreas)
    → solve_call table t k old ≡ solve_with_rest old (solve_call (take letter_bytes table) t k (cut_areas old))

-- what the plain route returns and leaves of areas cut so, with what was cut off put after
abbrev pub plain_with_rest : List ℕ → PlainOutcome → PlainOutcome
plain_with_rest model r = record { number = r.number; held = r.held; rounds = r.rounds; model = r.model ++ drop row_words model }

-- the same for the plain route
abbrev pub PlainSizes : Type 0
PlainSizes =
    (tables : RuleTables) (counts : Counts) (model : List ℕ)
    → plain_call tables counts model ≡ plain_with_rest model (plain_call (stated_rules tables) counts (take row_words model))
