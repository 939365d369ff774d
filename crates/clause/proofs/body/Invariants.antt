-- `clause::body` meets its contract. The loop's invariant: the words passed are names, joined to the row while there was room. Assumes nothing.
use mathlib.Core.Path.{◌≡◌}
use Prim.Native.Nat.{◌-◌}
use lib.ListN.{length}
use Rattle.std.specs.Prelude.{Some, is_some, IfSome}
use Rattle.grammar.specs.Bytes.{letters}
use Rattle.lexicon.specs.Same.{Same}
use Rattle.clause.specs.Held.{held}
use Rattle.clause.proofs.Passing.{Passed}
use Rattle.clause.proofs.body.Given as goal

abbrev pub invariant-loop-word : goal.invariant-loop-word
invariant-loop-word l =
    record {
      passed : Passed (letters l.source.folding.now) l.source.text.now l.initial.here.at l.here.at (is_some l.initial.head) (held l.initial.lexicon) (is_some l.head)
          (held l.lexicon) l.initial.row l.row;
      same : Same l.initial.lexicon l.lexicon;
      row_len : length l.row ≡ length l.initial.row;
      line : l.here.line ≡ l.initial.here.line;
      head : IfSome l.head (λ h. l.initial.head ≡ Some h);
    }

abbrev pub decreases-loop-word : goal.decreases-loop-word
decreases-loop-word l = length l.source.text.now - l.here.at
