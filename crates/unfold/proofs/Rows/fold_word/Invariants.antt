-- `unfold::Rows::fold_word` meets its contract. The loop's invariant: the rows that the rest names are still to be united. Assumes nothing.
use mathlib.Core.Path.{◌≡◌}
use Rattle.limits.specs.Book.{row_words}
use Rattle.rows.proofs.Reading.{Known}
use Rattle.unfold.proofs.Uniting.{uniting}
use Rattle.unfold.proofs.Rows.fold_word.Given as goal

abbrev pub invariant-loop-rest : goal.invariant-loop-rest
invariant-loop-rest l = record {
  known : Known l.to;
  left : uniting row_words l.self l.k l.rest l.to ≡ uniting row_words l.self l.k l.word l.initial.to;
}

abbrev pub decreases-loop-rest : goal.decreases-loop-rest
decreases-loop-rest l = l.rest
