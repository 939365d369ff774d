-- The row of a name in the area, as it is lent.
-- Assumes nothing.
use mathlib.Core.Path.{◌≡◌, ap}
use Prim.Native.Nat.{ℕ, ◌*◌}
use lib.ListN.{take, drop}
use Rattle.limits.specs.Book.{name_bytes}
use Rattle.grammar.specs.Bytes.{Bytes}
use Rattle.grammar.specs.Lines.{run}
use Rattle.tables.specs.Numbering.{same_bytes}
use Rattle.tables.specs.Areas.{nonzero, name_at}

-- the row that is lent is that of name a
pub spelt : (area row w : Bytes) (a : ℕ) → row ≡ take name_bytes (drop (a * name_bytes) area)
    → same_bytes (run nonzero row) w ≡ same_bytes (name_at area a) w
unfolding name_at
spelt area row w a q = ap (λ (s : Bytes). same_bytes (run nonzero s) w) q
