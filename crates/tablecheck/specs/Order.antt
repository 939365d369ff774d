-- Numbering by first appearance as the code finds it.
-- Assumes nothing.
use Rattle.std.specs.Prelude.{Bool, ◌&&◌, List, ℕ, suc, eqb, Option, Some, None}
use Rattle.std.specs.Option.{option_map, unwrap_or}
use Rattle.ways.specs.Tables as Tables
use Rattle.sets.specs.Set.{pick}
use Rattle.tables.specs.Writing.{orderly, met_in}

-- one past the largest number that a head can be
abbrev pub head_end : ℕ
head_end = Tables.head_end

-- how many numbers are met in the end, none where one is neither met before nor the next
unfoldable pub met_after : ℕ → List ℕ → Option ℕ
met_after met xs = pick (orderly met xs) (Some (met_in met xs)) None

-- one more than that, 0 where there is none
abbrev pub counted : ℕ → List ℕ → ℕ
counted met xs = unwrap_or (option_map suc (met_after met xs)) 0

-- the numbers are in order from the first on, and n in all
unfoldable pub ordered : ℕ → List ℕ → Bool
ordered n xs = orderly 0 xs && eqb (met_in 0 xs) n
