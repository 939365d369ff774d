-- `rows::row::count` meets its contract. The loop's invariant: the bits of the words passed.
-- Assumes nothing.
use Rattle.std.proofs.Common.{◌≡◌, ◌*◌, ◌≤◌}
use Rattle.limits.specs.Book.{word_bits}
use Rattle.sets.specs.Set as Set
use Rattle.sets.specs.Set.{union}
use Rattle.words.specs.Row.{row}
use Rattle.rows.proofs.row.count.Given as goal

abbrev pub invariant-loop-word : goal.invariant-loop-word
invariant-loop-word l = record {
  few : l.n ≤ l.word-index * word_bits;
  counted : l.n ≡ Set.count (l.word-index * word_bits) (row l.words);
}
