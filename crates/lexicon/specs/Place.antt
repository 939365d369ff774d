-- Where the look-up's part begins in the name area.
-- Assumes nothing.
use Rattle.std.specs.Prelude.{◌&&◌, ℕ, ◌*◌, leb, ltb, length}
use Rattle.limits.specs.Book.{names, name_bytes, name_area}
use Rattle.sets.specs.Set.{pick}
use Rattle.grammar.specs.Bytes.{Bytes}

-- bytes from the area's first: at the name's row, or at the area's start where there is no such name
unfoldable pub look_up_at : Bytes → ℕ → ℕ → ℕ
look_up_at area n a = pick (ltb a n && (leb n names && leb name_area (length area))) (a * name_bytes) 0
