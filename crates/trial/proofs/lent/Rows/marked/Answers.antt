use Rattle.std.proofs.Common.{rules}
use Rattle.trial.proofs.Fronts.{all_same}
use Rattle.trial.proofs.lent.Rows.marked.Goals as goal

pub returns-clause-all : goal.returns-clause-all
returns-clause-all c = search (rules, all_same 1028 81985529216486895)

pub returns-clause-any : goal.returns-clause-any
returns-clause-any c = search (rules, all_same 1028 81985529216486895)

pub returns-clause-spare : goal.returns-clause-spare
returns-clause-spare c = search (rules, all_same 1028 81985529216486895)
