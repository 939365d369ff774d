-- Text that is put into an area, part after part.
-- Assumes nothing.
use Rattle.std.specs.Prelude.{◌≡◌, ◌+◌, ◌≤◌, length}
use Rattle.areas.specs.Area.{put}
use Rattle.grammar.specs.Bytes.{Bytes}
use Rattle.copying.specs.declared.text.Text.{Text}

-- there is room for a part
abbrev pub Room : Text → Bytes → Type 0
Room old part = old.end + length part ≤ length old.area.now

-- `new` is `old` after a part was put: the same area, as long as it was
pub record Puts (old : Text) (part : Bytes) (new : Text) : Type 0 where
  pub end : new.end ≡ old.end + length part
  pub area : new.area.now ≡ put old.end part old.area.now
  pub long : length new.area.now ≡ length old.area.now
  pub same : new.area.ghost_name ≡ old.area.ghost_name
