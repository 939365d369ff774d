-- What the loop of rounds asks for.
-- Assumes nothing.
use Rattle.std.specs.Prelude.{◌≡◌, false, List, ℕ, ◌*◌, ◌≤◌}
use Rattle.limits.specs.Book.{word_bits, row_words}
use Rattle.sets.specs.Set.{Set, Within}
use Rattle.sets.specs.Steps.{Monotone}
use Rattle.words.specs.Row.{row, pack}

-- A row has room for n atoms, the step F is monotone and makes nothing at or past n; the row `start` has nothing there either, lies within what
-- a round makes of it, and `next` has that.
pub record Ready (n : ℕ) (F : Set → Set) (start next : List ℕ) : Type 0 where
  pub few : n ≤ row_words * word_bits
  pub mono : Monotone n F
  pub ends : (f : Set) (k : ℕ) → n ≤ k → F f k ≡ false
  pub words : start ≡ pack row_words (row start)
  pub start_ends : (k : ℕ) → n ≤ k → row start k ≡ false
  pub rises : Within n (row start) (F (row start))
  pub made : next ≡ pack row_words (F (row start))
