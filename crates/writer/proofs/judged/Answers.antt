-- `writer::judged` meets its contract. One law for each outcome. Assumes nothing.
use Rattle.writer.proofs.Calls.{areas_long, cause_short, cause_table, cause_formed}
use Rattle.writer.proofs.judged.Goals as goal

pub returns-then-too_short-clause-number : goal.returns-then-too_short-clause-number
returns-then-too_short-clause-number c = cause_short _ _ _ _ _ _ c.too_short.ensures c.if-too_short.true

pub returns-in_err-folding-clause-number : goal.returns-in_err-folding-clause-number
returns-in_err-folding-clause-number c =
    cause_table _ _ _ _ _ _ c.too_short.ensures c.if-too_short.false _ c.judge.ensures.number _ c.in_err-folding.was _ c.from_residual.ensures

pub judge-formed-requires : goal.judge-formed-requires
judge-formed-requires c = areas_long _ _ _ _ _ c.too_short.ensures c.if-too_short.false

pub returns : goal.returns
returns c =
    let formed = cause_formed _ _ _ _ _ _ c.too_short.ensures c.if-too_short.false _ c.judge.ensures.number c.judge.ensures.letters
    _ c.in_ok-folding.was _ c.judge-formed.ensures _ c.ok_or.ensures.value in
    record { number = formed.0; tables = formed.1 }
