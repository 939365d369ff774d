-- `writer::write` meets its contract. One law for each outcome. Assumes nothing.
use Rattle.std.proofs.Common.{rules}
use Rattle.writer.proofs.Calls.{call_refused, call_long, text_fits, still_long, call_done}
use Rattle.writer.proofs.write.Goals as goal

pub returns-in_err-tables : goal.returns-in_err-tables
returns-in_err-tables c = call_refused _ _ _ _ _ _ c.judged.ensures.number _ c.in_err-tables.was _ c.from_residual.ensures

pub returns-then-too_long : goal.returns-then-too_long
returns-then-too_long c =
    call_long _ _ _ _ _ _ c.judged.ensures.number _ c.in_ok-tables.was c.judged.ensures.tables _ c.text_len-size.ensures c.if-too_long.true

pub put_text-requires : goal.put_text-requires
put_text-requires c =
    text_fits _ _ _ _ _ _ c.judged.ensures.number _ c.in_ok-tables.was c.judged.ensures.tables _ c.text_len-size.ensures c.if-too_long.false

pub clear-requires : goal.clear-requires
clear-requires c = (
  search rules,
  still_long _ _ _ _ _ _ c.judged.ensures.number _ c.in_ok-tables.was c.judged.ensures.tables _ c.text_len-size.ensures
      c.if-too_long.false _ c.put_text.ensures,
)

pub returns : goal.returns
returns c =
    call_done _ _ _ _ _ _ c.judged.ensures.number _ c.in_ok-tables.was c.judged.ensures.tables _ c.text_len-size.ensures
    c.if-too_long.false _ _ c.put_text.ensures c.clear.ensures
