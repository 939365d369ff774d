-- `rows::row::empty` meets its contract. The loop's invariant: `found` is 0 exactly where the words passed have no atom.
-- Assumes nothing.
use Rattle.std.proofs.Common.{◌≡◌, ◌*◌, not, nat_eq}
use Rattle.limits.specs.Book.{word_bits}
use Rattle.sets.specs.Set as Set
use Rattle.sets.specs.Set.{union}
use Rattle.words.specs.Row.{row}
use Rattle.rows.proofs.row.empty.Given as goal

abbrev pub invariant-loop-x : goal.invariant-loop-x
invariant-loop-x l = not (nat_eq l.found 0) ≡ Set.exists (l.x-index * word_bits) (row l.words)
