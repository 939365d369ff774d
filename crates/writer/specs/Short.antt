-- Areas too short, by their lengths alone.
-- Assumes nothing.
use Rattle.std.specs.Prelude.{Bool, ◌||◌, ℕ, ltb}
use Rattle.limits.specs.Book.{text_bytes, name_area, rules, body_area}

-- the name area, the heads, the bodies or the text area
unfoldable pub short_write : ℕ → ℕ → ℕ → ℕ → Bool
short_write s h b t = (ltb s name_area || (ltb h rules || ltb b body_area)) || ltb t text_bytes
