use Rattle.std.proofs.Common.{rules}
use Rattle.trial.proofs.Fronts.{all_same}
use Rattle.trial.proofs.lent.Areas.marked.Goals as goal

pub returns-clause-listing : goal.returns-clause-listing
returns-clause-listing c = search (rules, all_same 4612 165)
