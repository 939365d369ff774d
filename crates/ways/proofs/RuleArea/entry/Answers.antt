-- `ways::RuleArea::entry` meets its contract: the one test that `search` does not find. Assumes nothing.
use Rattle.std.proofs.Common.{◌∙◌, ◌<◌, rules, arith}
use Rattle.ways.proofs.Entries.{body_decides}
use Rattle.ways.proofs.RuleArea.entry.Goals as goal

pub returns-then-head-name_count : goal.returns-then-head-name_count
returns-then-head-name_count c =
    let few : c.args.j < c.args.self.now.count = grind arith in
    c.ends.ensures
    ∙ body_decides c.args.self.now.tables (record { names = c.args.name_count; rules = c.args.self.now.count }) c.args.j _ few
    (omega arith) (search rules) (search rules)
