-- The tests before the text is read.
-- Assumes nothing.
use mathlib.Core.Path.{◌≡◌, sym}
use mathlib.Core.Bool.{Bool, true, false}
use Prim.Native.Nat.{ℕ, ◌≤◌, ◌<◌}
use borrow.Author.Tests.{lt-ltb, le-ltb}
use Rattle.limits.specs.Book.{text_bytes, folds}
use Rattle.sets.specs.Set.{pick}
use Rattle.solver.specs.Range.{range_cause}

-- `low` is whether an area is too short, t the bytes of text and k the fold number: the first cause settles it
module _ (low : Bool) (t k : ℕ) where
  -- an area too short
  pub cause_short : low ≡ true → 1 ≡ range_cause low t k
  unfolding range_cause pick
  cause_short e = sym (rw e)

  module _ (long : low ≡ false) where
    -- a text too long
    pub cause_text : text_bytes < t → 2 ≡ range_cause low t k
    unfolding range_cause pick
    cause_text e = sym (rw (long, lt-ltb text_bytes t e))

    module _ (fits : t ≤ text_bytes) where
      -- folds over 8
      pub cause_folds : folds < k → 9 ≡ range_cause low t k
      unfolding range_cause pick
      cause_folds e = sym (rw (long, le-ltb text_bytes t fits, lt-ltb folds k e))

      -- none
      pub cause_none : k ≤ folds → 0 ≡ range_cause low t k
      unfolding range_cause pick
      cause_none e = sym (rw (long, le-ltb text_bytes t fits, le-ltb folds k e))
