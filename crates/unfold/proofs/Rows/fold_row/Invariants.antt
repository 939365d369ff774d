-- `unfold::Rows::fold_row` meets its contract. The loop's invariant: the new row is the fold over the atoms of the words passed. Assumes nothing.
use mathlib.Core.Path.{◌≡◌}
use Rattle.limits.specs.Book.{row_words}
use Rattle.unfold.proofs.Uniting.{folded_below}
use Rattle.unfold.proofs.Rows.fold_row.Given as goal

abbrev pub invariant-loop-k : goal.invariant-loop-k
invariant-loop-k l = l.new ≡ folded_below row_words l.self l.i l.k
