-- `tablecheck::NameArea::is_new` meets its contract. Assumes nothing.
use Rattle.std.proofs.Common.{rules, tests, not}
use Rattle.sets.proofs.Below.{every_below}
use Rattle.tables.specs.Numbering.{same_bytes}
use Rattle.tables.specs.Areas.{name_at}
use Rattle.tablecheck.proofs.NameArea.is_new.Goals as goal

pub returns : goal.returns
returns c =
    let area = c.args.self.now.area in
    every_below (λ b. not (same_bytes (name_at area c.args.a) (name_at area b))) _ _ _ _ c.all.ensures.ran (λ x b q k. search (rules, tests))
