-- `rows::row::unite` meets its contract. The loop's invariant: the words passed hold the union, the rest is as it was.
-- Assumes nothing.
use Rattle.std.proofs.Common.{◌≡◌}
use Rattle.sets.specs.Set.{union}
use Rattle.words.specs.Row.{row, pack}
use Rattle.areas.specs.Area.{begun}
use Rattle.rows.proofs.row.unite.Given as goal

abbrev pub invariant-loop-j : goal.invariant-loop-j
invariant-loop-j l = l.to ≡ begun (pack l.j (union (row l.initial.to) (row l.from))) l.initial.to
