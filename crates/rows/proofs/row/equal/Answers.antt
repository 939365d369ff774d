use Rattle.std.proofs.Common.{◌∙◌, rules}
use Rattle.rows.proofs.Reading.{equal_same}
use Rattle.rows.proofs.row.equal.Goals as goal

pub returns : goal.returns
returns c = c.eq.ensures ∙ equal_same c.args.a.now c.args.b.now c.requires (search rules) (search rules)
