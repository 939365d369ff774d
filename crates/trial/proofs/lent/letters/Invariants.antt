use Rattle.std.proofs.Common.{◌≡◌, ℕ, ◌<◌, get_or}
use Rattle.grammar.specs.Bytes.{our_letters}
use Rattle.trial.proofs.lent.letters.Given as goal

abbrev pub invariant-loop-place : goal.invariant-loop-place
invariant-loop-place l = (k : ℕ) → k < l.place → k < 256 → get_or l.entries k 0 ≡ our_letters k
