-- `tablecheck::order::in_order` meets its contract. Assumes nothing.
use Rattle.std.proofs.Common.{rules, ◌∙◌, ap}
use Rattle.std.specs.Option.{option_eq}
use Rattle.std.proofs.Common.{Some, nat_eq}
use Rattle.tablecheck.proofs.Turns.{callable, answered, ordered_is}
use Rattle.tablecheck.proofs.order.in_order.Goals as goal

pub try_fold-requires-clause-callable : goal.try_fold-requires-clause-callable
try_fold-requires-clause-callable c =
    callable _ _ c.args.area.now.tables (λ met j v q k. search rules) c.rule_count.result (λ met j b l. search rules)

pub returns : goal.returns
returns c =
    c.eq.ensures
    ∙ ap (λ o. option_eq nat_eq o (Some c.args.n)) (answered _ _ c.args.area.now.tables (λ met j v q k. search rules) _ c.rule_count.result _ _ c.try_fold.ensures.ran)
    ∙ ordered_is c.args.n _ ∙ search rules
