-- `rounds::turns::until_still` meets its contract. The loop's invariant: `next` has the set after `set`, and the count is of the rounds that
-- make it. The measure is what is left of the rounds' bound. Assumes nothing.
use Prim.Native.Nat.{◌+◌, ◌-◌}
use Rattle.rounds.proofs.Loop.{Going}
use Rattle.rounds.proofs.turns.until_still.Given as goal

abbrev pub invariant-loop-set : goal.invariant-loop-set
invariant-loop-set g l = Going (g.R.Round.atoms l.by) (g.R.Round.after l.by) l.fn.start l.set l.next l.made

abbrev pub decreases-loop-set : goal.decreases-loop-set
decreases-loop-set g l = g.R.Round.atoms l.by + 1 - l.made
