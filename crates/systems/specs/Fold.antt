-- The fold call. Document 01: "The fold call makes k folds, 0 to 8; the spare is zero after it, also for 0."
-- Assumes nothing.
use Rattle.std.specs.Prelude.{Bool, ◌&&◌, ◌||◌, List, [], ℕ, leb, ltb, length}
use Rattle.limits.specs.Book.{atoms, folds, row_words, row_area}
use Rattle.sets.specs.Set.{pick}
use Rattle.program.specs.System.{rows_after}
use Rattle.areas.specs.Area.{begun, filled}
use Rattle.systems.specs.Rows.{row_in, packed, formed_rows}

-- what the call returns and leaves
pub record FoldOutcome : Type 0 where
  pub number : ℕ
  pub all : List ℕ
  pub spare : List ℕ

-- an area shorter than its stated size
unfoldable pub short_rows : List ℕ → List ℕ → Bool
short_rows all spare = ltb (length all) row_area || ltb (length spare) row_area

-- the count is within its limit, and neither a bit nor a row lies at or past it
unfoldable pub formed_all : List ℕ → ℕ → Bool
formed_all all m = leb m atoms && formed_rows row_words atoms m all

-- a refusal leaves all as it was
abbrev pub fold_refusal : ℕ → List ℕ → List ℕ → FoldOutcome
fold_refusal number all spare = record { number = number; all = all; spare = spare }

-- the rows of the first m atoms after k folds, taken from the rows as they were
unfoldable pub folded_area : ℕ → ℕ → List ℕ → List ℕ
folded_area k m all = begun (packed row_words m (rows_after k m (row_in row_words all))) all

-- areas too short, folds over 8, rows ill formed; else the folded rows, and zeros in the spare
unfoldable pub fold_call : List ℕ → List ℕ → ℕ → ℕ → FoldOutcome
fold_call all spare m k =
    pick (short_rows all spare) (fold_refusal 1 all spare)
    (pick (ltb folds k) (fold_refusal 9 all spare)
    (pick (formed_all all m) (record { number = 0; all = folded_area k m all; spare = filled row_area [] spare })
    (fold_refusal 10 all spare)))
