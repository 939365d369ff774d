-- Areas of exactly their stated sizes, for those who lend them to the solver.
-- Assumes nothing.
use Rattle.std.specs.Prelude.{ℕ, replicate}
use Rattle.limits.specs.Book.{rules, row_words, name_area, body_area, row_area}
use Rattle.grammar.specs.Bytes.{Bytes}
use Rattle.solving.specs.Solve.{SolveAreas}

-- each word and byte is x, beside a listing area
abbrev pub stated_areas : ℕ → Bytes → SolveAreas
stated_areas x listing =
    record {
      tables = record { spellings = replicate name_area x; heads = replicate rules x; bodies = replicate body_area x };
      all = replicate row_area x;
      any = replicate row_area x;
      spare = replicate row_area x;
      model = replicate row_words x;
      listing = listing;
    }
