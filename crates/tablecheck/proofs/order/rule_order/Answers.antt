use Rattle.std.proofs.Common.{◌∙◌, arith}
use Rattle.tables.specs.Areas.{rule_at}
use Rattle.tablecheck.proofs.Meeting.{body_off, body_on, body_turn}
use Rattle.tablecheck.proofs.order.rule_order.Goals as goal

pub returns-then-a-count-clause-order : goal.returns-then-a-count-clause-order
returns-then-a-count-clause-order c = body_off _ _ _ _ c.in-Some.ensures.steps c.if-a-count.true ∙ c.loop-a.invariant.rest

pub loop-a-preserved : goal.loop-a-preserved
loop-a-preserved c =
    let low = body_turn (rule_at c.args.area.now.tables c.args.j).body c.into_iter-a-iterator.result c.loop-a.a-iterator c.next.new.self
    c.loop-a.yielded c.in-Some.a (cc) c.loop-a.yielded_by c.in-Some.ensures.steps in
    record {
      few = omega (arith, low);
      rest = body_on _ _ _ _ c.in-Some.ensures.steps _ c.if-a-count.false c.max-count-in-loop-a.ensures ∙ c.loop-a.invariant.rest;
    }
