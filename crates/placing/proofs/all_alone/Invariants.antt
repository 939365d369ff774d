-- `placing::all_alone` meets its contract. The loop's invariant: the rows passed are each their atom alone. Assumes nothing.
use mathlib.Core.Path.{◌≡◌}
use Rattle.limits.specs.Book.{row_words}
use Rattle.sets.specs.Set.{only}
use Rattle.areas.specs.Area.{begun}
use Rattle.systems.specs.Rows.{packed}
use Rattle.placing.proofs.all_alone.Given as goal

abbrev pub invariant-loop-i : goal.invariant-loop-i
invariant-loop-i l = l.all ≡ begun (packed row_words l.i only) l.initial.all
