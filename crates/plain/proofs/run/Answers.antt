use Rattle.std.proofs.Common.{Err}
use Rattle.plain.proofs.Rising.{ready, rounds_are, model_is, held_is}
use Rattle.plain.proofs.Calls.{call_short, call_refused, call_done}
use borrow.Author.Rules.{rules}
use Rattle.plain.proofs.run.Goals as goal
use mathlib.Core.Path.{◌≡◌}

pub returns-then-short : goal.returns-then-short
returns-then-short c = call_short _ _ _ c.if-short.true

pub returns-in_err-rules : goal.returns-in_err-rules
returns-in_err-rules c =
    let r : c.from_residual.result ≡ Err c.in_err-rules.field-0.0 = search rules in
    rw r (call_refused _ _ _ c.if-short.false _ c.in_err-rules.ensures.number)

pub until_still-reached-requires : goal.until_still-reached-requires
until_still-reached-requires c = ready _ _ c.in_order.ensures.formed _ c.step-next.ensures

pub returns : goal.returns
returns c =
    let formed = c.in_order.ensures.formed in
    let set = c.until_still-reached.ensures.set in
    let done =
    call_done _ _ c.args.model.now (c.in_order.ensures.long, c.if-short.false) formed _ _ _
    (held_is _ _ formed _ set _ c.count-held.ensures)
    (rounds_are _ _ formed _ c.until_still-reached.ensures.rounds)
    (model_is _ _ formed _ set _ c.args.model.now c.copy_from_slice.ensures.after)
    in
    rw c.in_ok-rules.ensures.rules at done
