-- `tablecheck::NameArea::all_differ` meets its contract. Assumes nothing.
use Rattle.std.proofs.Common.{rules, tests, not, ap, ◌∙◌}
use Rattle.sets.specs.Set.{Set, every}
use Rattle.sets.proofs.Below.{every_below}
use Rattle.tables.specs.Numbering.{same_bytes}
use Rattle.tables.specs.Areas.{name_at}
use Rattle.tables.specs.Writing.{different}
use Rattle.tablecheck.proofs.NameArea.all_differ.Goals as goal

pub returns : goal.returns
unfolding different
returns c =
    let area = c.args.self.now.area in
    let test : Set = λ a. every a (λ b. not (same_bytes (name_at area a) (name_at area b))) in
    every_below test _ _ _ _ c.all.ensures.ran (λ x b q k. search (rules, tests)) ∙ ap (λ n. every n test) (search rules)
