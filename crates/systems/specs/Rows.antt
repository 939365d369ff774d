-- Areas of rows: row i is the w words from place i * w on, for any width w.
-- Assumes nothing.
use Rattle.std.specs.Prelude.{Bool, ◌&&◌, List, [], ◌++◌, ℕ, zero, suc, ◌*◌, ltb}
use Rattle.limits.specs.Book.{word_bits}
use Rattle.sets.specs.Set.{Set, every, within}
use Rattle.areas.specs.Area.{part}
use Rattle.words.specs.Row.{row, pack}

-- the areas of a system: its "all" rows, its "any" rows and its start or last set
pub record RowAreas : Type 0 where
  pub all : List ℕ
  pub any : List ℕ
  pub model : List ℕ

-- row i of an area
abbrev pub row_in : ℕ → List ℕ → ℕ → Set
row_in w area i = row (part (i * w) w area)

-- the words of rows 0 to m - 1
unfoldable pub packed : ℕ → ℕ → (ℕ → Set) → List ℕ
packed w zero rows = []
packed w (suc m) rows = packed w m rows ++ pack w (rows m)

-- the members of f below m
abbrev pub below : ℕ → Set → Set
below m f i = ltb i m && f i

-- Of r rows, those below m have no bit at or past m, and the others no bit at all.
unfoldable pub formed_rows : ℕ → ℕ → ℕ → List ℕ → Bool
formed_rows w r m area = every r (λ i. within (w * word_bits) (row_in w area i) (λ k. ltb i m && ltb k m))
