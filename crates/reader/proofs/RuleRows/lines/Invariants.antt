-- `reader::RuleRows::lines` meets its contract. The loop's invariant: the clauses so far stand in the tables, and reading on is reading the text.
-- Assumes nothing.
use Prim.Native.Nat.{◌-◌}
use lib.ListN.{length}
use Rattle.grammar.specs.Bytes.{letters}
use Rattle.lexicon.specs.Same.{Same}
use Rattle.reader.specs.State.{tables_in, SameRows}
use Rattle.reader.proofs.Lining.{Going}
use Rattle.reader.proofs.RuleRows.lines.Given as goal

abbrev pub invariant-loop-cursor : goal.invariant-loop-cursor
invariant-loop-cursor l =
    record {
      same_names : Same l.initial.lexicon l.lexicon;
      same_rows : SameRows l.initial.self l.self;
      going :
          Going (letters l.source.folding.now) l.source.text.now l.cursor.at l.cursor.line
          (tables_in l.initial.lexicon l.initial.self) (tables_in l.lexicon l.self);
    }

abbrev pub decreases-loop-cursor : goal.decreases-loop-cursor
decreases-loop-cursor l = length l.source.text.now - l.cursor.at
