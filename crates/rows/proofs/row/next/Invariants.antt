-- `rows::row::next` meets its contract. The loop's invariant: the first atom at or past p is the first at or past a.
-- Assumes nothing.
use Rattle.std.proofs.Common.{◌≡◌, ◌*◌, ◌≤◌, ◌-◌, length}
use Rattle.limits.specs.Book.{word_bits}
use Rattle.sets.specs.Set as Set
use Rattle.sets.specs.Set.{union}
use Rattle.words.specs.Row.{row}
use Rattle.rows.proofs.row.next.Given as goal

abbrev pub invariant-loop-p : goal.invariant-loop-p
invariant-loop-p l = record {
  inside : l.p ≤ length l.words * word_bits;
  first : Set.next (length l.words * word_bits - l.p) (row l.words) l.p ≡ Set.next (length l.words * word_bits - l.a) (row l.words) l.a;
}

abbrev pub decreases-loop-p : goal.decreases-loop-p
decreases-loop-p l = length l.words * word_bits - l.p
