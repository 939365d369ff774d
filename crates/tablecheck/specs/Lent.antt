-- A lent name area as a value.
-- Assumes nothing.
use Rattle.std.specs.Prelude.{ℕ}
use Rattle.grammar.specs.Bytes.{Bytes}

-- the area, and how many names are in use
pub record Names : Type 0 where
  pub area : Bytes
  pub count : ℕ
