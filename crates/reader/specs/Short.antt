-- Areas too short, by their lengths alone.
-- Assumes nothing.
use Rattle.std.specs.Prelude.{Bool, ◌||◌, ℕ, ltb}
use Rattle.limits.specs.Book.{rules, name_area, body_area}

-- the name area, the heads or the bodies
unfoldable pub short_read : ℕ → ℕ → ℕ → Bool
short_read s h b = ltb s name_area || (ltb h rules || ltb b body_area)
