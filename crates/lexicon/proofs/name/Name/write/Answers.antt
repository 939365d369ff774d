use Rattle.std.proofs.Common.{sym, subst}
use Rattle.grammar.specs.Bytes.{letters}
use Rattle.lexicon.specs.Index.{Storable}
use Rattle.lexicon.proofs.Spelling.{write_all, word_fine}
use Rattle.lexicon.proofs.name.Name.write.Goals as goal

pub returns-clause-row : goal.returns-clause-row
returns-clause-row c =
    write_all (letters c.self.inside.folding.now) c.self.inside.bytes.now _ _ _ (sym c.self.view_is) c.loop-i.auto.i-end c.loop-i-test.false c.loop-i.invariant

pub returns-clause-fine : goal.returns-clause-fine
returns-clause-fine c = subst Storable c.self.view_is (word_fine _ _ c.self.invariant)
