use Rattle.std.proofs.Common.{rules}
use Rattle.rows.proofs.Writing.{unite_none, unite_on, unite_all}
use Rattle.rows.proofs.row.unite.Goals as goal

pub loop-j-init : goal.loop-j-init
loop-j-init c = unite_none c.args.to.now c.args.from.now

pub loop-j-preserved : goal.loop-j-preserved
loop-j-preserved c =
    unite_on c.args.to.now c.args.from.now _ (search rules) c.type_inv.from c.loop-j.j (search rules) c.loop-j.invariant

pub returns : goal.returns
returns c = unite_all c.args.to.now c.args.from.now _ (search (rules, c.requires, c.loop-j.invariant))
