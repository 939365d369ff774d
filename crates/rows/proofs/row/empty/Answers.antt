use Rattle.std.proofs.Common.{rules}
use Rattle.rows.proofs.Reading.{exists_on}
use Rattle.sets.specs.Set as Set
use Rattle.rows.proofs.row.empty.Goals as goal

pub loop-x-init : goal.loop-x-init
unfolding Set.exists
loop-x-init c = search rules

pub loop-x-preserved : goal.loop-x-preserved
loop-x-preserved c = exists_on c.args.words.now c.type_inv.words c.loop-x.x-index c.loop-x.found c.loop-x.invariant
