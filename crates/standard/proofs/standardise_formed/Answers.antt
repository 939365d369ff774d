-- `standard::standardise_formed` meets its contract. One law for each outcome. Assumes nothing.
use native.Mathlib.Omega.{arith}
use borrow.Author.Rules.{rules}
use Rattle.standard.proofs.Calls.{handed_back, helpers_few, rows_ready, call_over, call_done}
use Rattle.standard.proofs.standardise_formed.Goals as goal

pub overflow_add-atoms : goal.overflow_add-atoms
overflow_add-atoms c =
    omega (arith, helpers_few _ _ c.in_order.ensures.formed c.several-several.ensures c.helpers.ensures c.names.ensures)

pub returns-then-over : goal.returns-then-over
returns-then-over c =
    call_over _ _ _ (c.in_order.ensures.long, c.requires.long) c.in_order.ensures.formed c.several-several.ensures c.helpers.ensures
    c.names.ensures c.if-over.true

pub fill-c-requires : goal.fill-c-requires
fill-c-requires c =
    rows_ready _ _ c.in_order.ensures.formed c.several-several.ensures c.helpers.ensures c.names.ensures c.if-over.false _ _
    c.begin.ensures.all c.begin.ensures.any c.begin.ensures.model (c.in_order.ensures.long, c.requires.long)

pub returns : goal.returns
returns c =
    handed_back (search rules) (search rules) (search rules)
    (call_done _ _ _ (c.in_order.ensures.long, c.requires.long) c.in_order.ensures.formed c.several-several.ensures c.helpers.ensures
    c.names.ensures c.if-over.false _ c.begin.ensures.all c.begin.ensures.any c.begin.ensures.model _ _ _ c.fill-c.ensures.filled
    c.count-h.ensures)
