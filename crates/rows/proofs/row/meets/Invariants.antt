-- `rows::row::meets` meets its contract. The loop's invariant: `common` is not 0 exactly where the words passed have a common bit.
-- Assumes nothing.
use Rattle.std.proofs.Common.{◌≡◌, ◌*◌, length, not, nat_eq}
use Rattle.limits.specs.Book.{word_bits}
use Rattle.sets.specs.Set as Set
use Rattle.words.specs.Row.{row}
use Rattle.rows.proofs.row.meets.Given as goal

abbrev pub invariant-loop-x : goal.invariant-loop-x
invariant-loop-x l = not (nat_eq l.common 0) ≡ Set.meets (length l.yielded * word_bits) (row l.a) (row l.b)
