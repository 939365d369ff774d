-- Areas of rows too short, by their lengths alone.
-- Document 01: "a lent area is too short", number 1.
-- Assumes nothing.
use Rattle.std.specs.Prelude.{Bool, ◌||◌, ℕ, ltb}
use Rattle.limits.specs.Book.{row_words, row_area}

-- the "all" area, the "any" area or the model area
abbrev pub short_rows : ℕ → ℕ → ℕ → Bool
short_rows a y m = ltb a row_area || (ltb y row_area || ltb m row_words)
