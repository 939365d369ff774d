-- `rounds::System::step` meets its contract. The loop's invariant: of the set after v, the atoms passed are in. Assumes nothing.
use mathlib.Core.Path.{◌≡◌}
use Rattle.words.specs.Row.{row}
use Rattle.rounds.proofs.Stepping.{gathered}
use Rattle.rounds.proofs.SystemRound.step.Given as goal

abbrev pub invariant-loop-i : goal.invariant-loop-i
invariant-loop-i l = l.next ≡ gathered l.self.all l.self.any (row l.v) l.i
