use native.Mathlib.Omega.{arith}
use Rattle.rounds.proofs.Loop.{loop_begin, loop_less, loop_on, loop_count, loop_set}
use Rattle.rounds.proofs.turns.until_still.Goals as goal

pub loop-set-init : goal.loop-set-init
loop-set-init g c = loop_begin _ _ _ _ c.requires

pub loop-set-smaller : goal.loop-set-smaller
loop-set-smaller g c = omega (arith, loop_less _ _ _ _ c.requires _ _ _ c.loop-set.invariant _ c.equal.ensures c.loop-set-test.true)

pub loop-set-preserved : goal.loop-set-preserved
loop-set-preserved g c = loop_on _ _ _ _ c.requires _ _ _ c.loop-set.invariant _ c.equal.ensures c.loop-set-test.true _ c.step-next.ensures

pub returns : goal.returns
returns g c = record {
  rounds = loop_count _ _ _ _ c.requires _ _ _ c.loop-set.invariant _ c.equal.ensures c.loop-set-test.false;
  set = loop_set _ _ _ _ c.requires _ _ _ c.loop-set.invariant _ c.equal.ensures c.loop-set-test.false;
}
