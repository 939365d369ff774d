-- What is judged before the text is read, by lengths and the fold number alone.
-- Document 01: "a lent area is too short", number 1; "text over 16,384 bytes", 2; "folds over 8", 9.
-- Assumes nothing.
use Rattle.std.specs.Prelude.{Bool, ◌||◌, ℕ, ltb}
use Rattle.limits.specs.Book.{text_bytes, rules, folds, row_words, name_area, body_area, row_area, listing_bytes}
use Rattle.sets.specs.Set.{pick}

-- an area is shorter than its stated size, by the lengths of all eight
unfoldable pub short_solve : ℕ → ℕ → ℕ → ℕ → ℕ → ℕ → ℕ → ℕ → Bool
short_solve spellings heads bodies all any spare model listing =
    (ltb spellings name_area || (ltb heads rules || ltb bodies body_area))
    || (ltb all row_area || (ltb any row_area || (ltb spare row_area || (ltb model row_words || ltb listing listing_bytes))))

-- the first cause, 0 for none: an area too short, the bytes of text, the fold number
unfoldable pub range_cause : Bool → ℕ → ℕ → ℕ
range_cause low text k = pick low 1 (pick (ltb text_bytes text) 2 (pick (ltb folds k) 9 0))
