use Rattle.tables.specs.Areas.{rule_at}
use Rattle.writer.proofs.Lengths.{rest_few}
use Rattle.writer.proofs.measure.rule_len.Goals as goal

pub rest_len-requires : goal.rest_len-requires
rest_len-requires c = rest_few (rule_at c.args.tables.now.rules.tables c.args.j).body _ _ _ c.body_names-body.ensures c.in-Some.ensures.steps
