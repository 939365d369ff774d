-- `lexicon::Index::find` meets its contract. The loop's invariant: no name from k on is the one sought, and the name before k is in its
-- bucket. Assumes nothing.
use Rattle.lexicon.proofs.Chains.{Walking}
use Rattle.lexicon.proofs.Index.find.Given as goal

abbrev pub invariant-loop-k : goal.invariant-loop-k
invariant-loop-k l = Walking l.self.spellings.now l.self.count l.name l.k

abbrev pub decreases-loop-k : goal.decreases-loop-k
decreases-loop-k l = l.k
