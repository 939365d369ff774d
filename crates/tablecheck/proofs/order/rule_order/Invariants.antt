-- `tablecheck::order::rule_order` meets its contract. The loop's invariant: the names that are left decide. Assumes nothing.
use mathlib.Core.Path.{◌≡◌}
use Prim.Native.Nat.{◌≤◌}
use Rattle.rows.specs.Members.{left}
use Rattle.tables.specs.Areas.{rule_at}
use Rattle.tables.specs.Writing.{numbers_of}
use Rattle.tablecheck.specs.Order.{head_end, met_after}
use Rattle.tablecheck.proofs.order.rule_order.Given as goal

abbrev pub invariant-loop-a : goal.invariant-loop-a
invariant-loop-a l = record {
  few : l.count ≤ head_end;
  rest : met_after l.count (left l.a-iterator) ≡ met_after l.met (numbers_of (rule_at l.area.tables l.j));
}
