use native.Mathlib.Omega.{arith}
use Rattle.scan.proofs.Ours.{ranging_more, ranging_last}
use Rattle.scan.proofs.table.fill_range.Goals as goal

pub loop-b-preserved : goal.loop-b-preserved
loop-b-preserved c = rw c.from.ensures (ranging_more _ _ _ c.loop-b.invariant (omega arith) (omega arith))

pub returns-2 : goal.returns-2
returns-2 c = rw c.from.ensures (ranging_last _ _ _ c.loop-b.invariant (omega arith) (omega arith))
