-- Areas too short, by their lengths alone.
-- Document 01: "a lent area is too short", number 1.
-- Assumes nothing.
use Rattle.std.specs.Prelude.{Bool, ◌||◌, ℕ, ltb}
use Rattle.limits.specs.Book.{rules, body_area}
use Rattle.rowcheck.specs.Short.{short_rows}

-- the heads, the bodies or an area of rows
unfoldable pub short_standard : ℕ → ℕ → ℕ → ℕ → ℕ → Bool
short_standard h b a y m = (ltb h rules || ltb b body_area) || short_rows a y m
