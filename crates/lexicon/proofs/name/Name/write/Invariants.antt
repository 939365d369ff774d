-- `lexicon::name::Name::write` meets its contract. The loop's invariant: the bytes passed are the name's, the rest of the row is clear.
-- Assumes nothing.
use mathlib.Core.Path.{◌≡◌}
use Rattle.lexicon.proofs.Spelling.{written}
use Rattle.lexicon.proofs.name.Name.write.Given as goal

abbrev pub invariant-loop-i : goal.invariant-loop-i
invariant-loop-i l = l.row ≡ written l.self l.i
