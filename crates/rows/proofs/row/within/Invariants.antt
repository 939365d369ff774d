-- `rows::row::within` meets its contract. The loop's invariant: `past` is 0 exactly where the words passed are within the other row.
-- Assumes nothing.
use Rattle.std.proofs.Common.{◌≡◌, ◌*◌, length, nat_eq}
use Rattle.limits.specs.Book.{word_bits}
use Rattle.sets.specs.Set as Set
use Rattle.words.specs.Row.{row}
use Rattle.rows.proofs.row.within.Given as goal

abbrev pub invariant-loop-x : goal.invariant-loop-x
invariant-loop-x l = nat_eq l.past 0 ≡ Set.within (length l.yielded * word_bits) (row l.a) (row l.b)
