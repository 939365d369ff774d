-- The outcomes of the call.
-- Assumes nothing.
use mathlib.Core.Path.{◌≡◌}
use mathlib.Core.Bool.{true, false}
use mathlib.Core.List.{List, []}
use Prim.Native.Nat.{ℕ, ◌≤◌, ◌<◌}
use lib.Dec.{ltb}
use lib.ListN.{length}
use borrow.Author.Tests.{lt-ltb, le-ltb}
use Rattle.limits.specs.Book.{folds, row_area}
use Rattle.sets.proofs.Logic.{or_left, or_right}
use Rattle.areas.specs.Area.{filled}
use Rattle.rowcheck.proofs.Counted.{keeps}
use Rattle.systems.specs.Fold.{short_rows, formed_all, fold_refusal, folded_area, fold_call}
use Rattle.systems.proofs.Folds.{fold_short, fold_over, fold_ill, fold_good}

module _ (all spare : List ℕ) (m k : ℕ) where
  -- an area too short: 1
  pub all_short : length all < row_area → fold_call all spare m k ≡ fold_refusal 1 all spare
  unfolding short_rows
  all_short l = fold_short all spare m k (or_left (ltb (length spare) row_area) (lt-ltb (length all) row_area l))

  pub spare_short : length spare < row_area → fold_call all spare m k ≡ fold_refusal 1 all spare
  unfolding short_rows
  spare_short l = fold_short all spare m k (or_right (ltb (length all) row_area) (lt-ltb (length spare) row_area l))

  module _ (la : row_area ≤ length all) (ls : row_area ≤ length spare) where
    long : short_rows all spare ≡ false
    unfolding short_rows
    long = rw (le-ltb (length all) row_area la, le-ltb (length spare) row_area ls)

    -- more folds than there may be: 9
    pub call_over : folds < k → fold_call all spare m k ≡ fold_refusal 9 all spare
    call_over h = fold_over all spare m k long h

    -- rows that do not keep the count: 10
    pub call_ill : k ≤ folds → formed_all all m ≡ false → fold_call all spare m k ≡ fold_refusal 10 all spare
    call_ill lk e = fold_ill all spare m k long lk e

    -- folded
    pub call_done : k ≤ folds → formed_all all m ≡ true
        → fold_call all spare m k ≡ record { number = 0; all = folded_area k m all; spare = filled row_area [] spare }
    call_done lk e = fold_good all spare m k long lk e

-- the laws of `fold`
pub ruleset refusing = (keeps, all_short, spare_short, call_over, call_ill, call_done)
