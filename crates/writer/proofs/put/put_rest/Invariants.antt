-- `writer::put::put_rest` meets its contract. The loop's invariant: the names that the walk has before it are left to put. Assumes nothing.
use Rattle.rows.specs.Members.{left}
use Rattle.copying.proofs.Texts.{Left}
use Rattle.writer.specs.Spelt.{rest}
use Rattle.writer.proofs.put.put_rest.Given as goal

abbrev pub invariant-loop-a : goal.invariant-loop-a
invariant-loop-a l = Left l.initial.text (rest l.lent (left l.members)) (rest l.lent (left l.a-iterator)) l.text
