-- `ways::formed` meets its contract: within the limits, `all` tests every entry. Assumes nothing.
use borrow.Author.Rules.{rules}
use borrow.Author.Tests.{tests}
use mathlib.Core.Path.{◌∙◌}
use Rattle.sets.proofs.Below.{every_below}
use Rattle.tables.specs.Areas.{rule_tables}
use Rattle.systems.specs.Standardise.{formed_entry}
use Rattle.ways.proofs.Entries.{entries}
use Rattle.ways.proofs.formed.Goals as goal

pub returns : goal.returns
returns c =
    every_below (formed_entry (rule_tables c.args.heads.now c.args.bodies.now) (record { names = c.args.counts.names; rules = c.args.counts.rules }))
    _ _ _ _ c.all.ensures.ran (λ x b q k. search (rules, tests))
    ∙ entries _ _ c.if-many_names.false c.if-many_rules.false
