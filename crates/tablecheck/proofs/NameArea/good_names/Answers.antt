-- `tablecheck::NameArea::good_names` meets its contract. Assumes nothing.
use Rattle.std.proofs.Common.{rules, tests, ap, ◌∙◌}
use Rattle.sets.specs.Set.{every}
use Rattle.sets.proofs.Below.{every_below}
use Rattle.grammar.specs.Bytes.{letters}
use Rattle.tables.specs.Writing.{good_name}
use Rattle.tablecheck.proofs.NameArea.good_names.Goals as goal

pub returns : goal.returns
returns c =
    every_below (good_name (letters c.args.folding.now) c.args.self.now.area) _ _ _ _ c.all.ensures.ran (λ x b q k. search (rules, tests))
    ∙ ap (λ n. every n (good_name (letters c.args.folding.now) c.args.self.now.area)) (search rules)
