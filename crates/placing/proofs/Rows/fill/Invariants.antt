-- `placing::Rows::fill` meets its contract. The loop's invariant: the first j rules are placed. Assumes nothing.
use Rattle.tables.specs.Areas.{program_in}
use Rattle.placing.proofs.Filling.{Placed}
use Rattle.placing.specs.Same.{Same}
use Rattle.placing.proofs.Rows.fill.Given as goal

abbrev pub invariant-loop-j : goal.invariant-loop-j
invariant-loop-j l = record {
  placed : Placed (program_in l.rules.tables l.rules.counts) l.j l.helper l.c l.initial.self.all.now l.initial.self.any.now l.initial.self.model.now
      l.self.all.now l.self.any.now l.self.model.now;
  same : Same l.initial.self l.self;
}
