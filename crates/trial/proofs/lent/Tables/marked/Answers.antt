use Rattle.std.proofs.Common.{rules}
use Rattle.trial.proofs.Fronts.{all_same}
use Rattle.trial.proofs.lent.Tables.marked.Goals as goal

pub returns-clause-spellings : goal.returns-clause-spellings
returns-clause-spellings c = search (rules, all_same 4100 165)

pub returns-clause-heads : goal.returns-clause-heads
returns-clause-heads c = search (rules, all_same 260 4660)

pub returns-clause-bodies : goal.returns-clause-bodies
returns-clause-bodies c = search (rules, all_same 516 81985529216486895)
