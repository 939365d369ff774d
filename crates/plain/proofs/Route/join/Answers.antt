use mathlib.Core.Path.{◌∙◌}
use Rattle.words.specs.Row.{row}
use Rattle.plain.proofs.Stepping.{body_test, step_none, step_out, step_in}
use borrow.Author.Rules.{rules}
use Rattle.plain.proofs.Route.join.Goals.{then-holds, else-holds}
use Rattle.plain.proofs.Route.join.Goals as goal

pub loop-j-init : goal.loop-j-init
loop-j-init c = step_none _ _ c.args.next.now c.fits-next (search rules)

pub loop-j-preserved : goal.loop-j-preserved
loop-j-preserved c =
    let v = c.args.v.now in
    let new = c.args.next.now in
    let tables = c.args.self.now.rules.tables in
    let r = body_test tables.bodies v _ c.loop-j.j _ (search rules) c.body.ensures.body c.body.ensures.long c.within-holds.ensures in
    elim c.if-holds.branch [
      | then-holds w ↦ w.next-is ∙ step_in tables (row v) new _ _ c.loop-j.invariant _ r _ _ w.if-holds.true w.head.ensures.head w.insert.ensures
      | else-holds w ↦ w.next-is ∙ step_out tables (row v) new _ _ c.loop-j.invariant _ r w.if-holds.false
    ]
