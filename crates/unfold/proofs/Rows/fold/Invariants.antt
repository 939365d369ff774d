-- `unfold::Rows::fold` meets its contract. The loop's invariant: the rows passed are folded. Assumes nothing.
use mathlib.Core.Path.{◌≡◌}
use Rattle.limits.specs.Book.{atoms, row_words}
use Rattle.program.specs.System.{unfold_once}
use Rattle.areas.specs.Area.{begun}
use Rattle.systems.specs.Rows.{row_in, packed}
use Rattle.unfold.proofs.Rows.fold.Given as goal

abbrev pub invariant-loop-i : goal.invariant-loop-i
invariant-loop-i l = l.to ≡ begun (packed row_words l.i (unfold_once atoms (row_in row_words l.self))) l.initial.to
