use Rattle.copying.proofs.Putting.{byte_on}
use Rattle.copying.proofs.copy.Goals as goal

pub loop-i-preserved : goal.loop-i-preserved
loop-i-preserved c = byte_on c.args.at c.loop-i.i c.args.src.now c.args.area.now c.loop-i.area c.requires c.loop-i-test.true c.loop-i.invariant
