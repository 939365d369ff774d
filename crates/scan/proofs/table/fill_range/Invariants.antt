-- `scan::table::fill_range` meets its contract. The loop's invariant: the rest of the range is still to be put. Assumes nothing.
use Rattle.scan.proofs.Ours.{Ranging}
use Rattle.scan.proofs.table.fill_range.Given as goal

abbrev pub invariant-loop-b : goal.invariant-loop-b
invariant-loop-b l = Ranging l.first l.last l.more l.initial.area l.area l.b
