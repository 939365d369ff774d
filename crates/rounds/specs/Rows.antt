-- The rows of a system and how many of them count. With a start set they are the areas that the rounds are made over.
-- Assumes nothing.
use Rattle.std.specs.Prelude.{List, ℕ}
use Rattle.systems.specs.Rows.{RowAreas}

-- the "all" rows, the "any" rows, and the count
pub record Rows : Type 0 where
  pub all : List ℕ
  pub any : List ℕ
  pub count : ℕ

-- with the area that has the start set
abbrev pub with_start : Rows → List ℕ → RowAreas
with_start s model = record { all = s.all; any = s.any; model = model }
