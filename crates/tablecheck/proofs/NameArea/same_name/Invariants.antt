-- `tablecheck::NameArea::same_name` meets its contract. The loop's invariant: the names go on alike from byte k where they are the same. Assumes nothing.
use mathlib.Core.Path.{◌≡◌}
use Rattle.tables.specs.Numbering.{same_bytes}
use Rattle.tables.specs.Areas.{name_at}
use Rattle.tablecheck.proofs.Alike.{alike}
use Rattle.tablecheck.proofs.NameArea.same_name.Given as goal

abbrev pub invariant-loop-k : goal.invariant-loop-k
invariant-loop-k l = alike l.k l.x l.y ≡ same_bytes (name_at l.self.area l.a) (name_at l.self.area l.b)
