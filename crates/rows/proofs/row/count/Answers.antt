use Rattle.std.proofs.Common.{rules}
use Rattle.rows.proofs.Reading.{count_on, count_le}
use Rattle.sets.specs.Set as Set
use Rattle.rows.proofs.row.count.Goals as goal

pub loop-word-init : goal.loop-word-init
unfolding Set.count
loop-word-init c = search rules

pub loop-word-preserved : goal.loop-word-preserved
loop-word-preserved c = record {
  few = count_le c.args.words.now c.type_inv.words c.loop-word.word-index c.loop-word.n c.loop-word.invariant.few;
  counted = count_on c.args.words.now c.type_inv.words c.loop-word.word-index c.loop-word.n c.loop-word.invariant.counted;
}
