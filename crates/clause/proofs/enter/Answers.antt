-- `clause::enter` meets its contract. Assumes nothing.
use Rattle.lexicon.proofs.Chains.{hash_lt}
use Rattle.clause.specs.Held.{held}
use Rattle.clause.proofs.Meeting.{met_full, met_new}
use Rattle.clause.proofs.enter.Goals as goal

pub returns-then-full-clause-met : goal.returns-then-full-clause-met
returns-then-full-clause-met c = met_full _ (held c.args.lexicon.now) c.requires.in_order c.requires.new _ c.if-full.true

pub add-requires-clause-bucket : goal.add-requires-clause-bucket
add-requires-clause-bucket c = hash_lt _ _ c.args.name.now.hashed

pub returns-clause-met : goal.returns-clause-met
returns-clause-met c =
    let e = c.add.ensures in
    met_new _ (held c.args.lexicon.now) c.requires.in_order e.fine c.requires.new (held c.add.new.self) _ c.args.name.now.hashed c.if-full.false e.count e.area
    e.firsts e.priors
