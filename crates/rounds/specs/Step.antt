-- One round over areas of rows. Document 01: "an atom with a non-empty "any" row is in the next set if that row meets v; another atom is in
-- it if its "all" row lies within v."
-- Assumes nothing.
use Rattle.std.specs.Prelude.{List, [], ℕ}
use Rattle.limits.specs.Book.{atoms}
use Rattle.sets.specs.Set.{Set}
use Rattle.program.specs.System.{round}
use Rattle.systems.specs.Rounds.{system_in}

-- the set after v, each row taken whole; the start set plays no part
unfoldable pub set_after : List ℕ → List ℕ → Set → Set
set_after all any v = round (system_in (record { all = all; any = any; model = [] }) atoms) v
