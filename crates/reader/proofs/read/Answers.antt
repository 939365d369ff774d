-- `reader::read` meets its contract. Assumes nothing.
use mathlib.Core.Path.{refl}
use Rattle.reader.proofs.Calling.{call_refused, call_ready, call_read}
use Rattle.reader.proofs.read.Goals as goal

pub returns-in_err-folding : goal.returns-in_err-folding
returns-in_err-folding c =
    call_refused _ c.args.text.now _ _ _ _ c.tables_short.ensures c.if-tables_short.false _ c.in_err-folding.ensures.number _ _
    c.from_residual.ensures refl

pub read_formed-requires-clause-name_area_in_bounds : goal.read_formed-requires-clause-name_area_in_bounds
read_formed-requires-clause-name_area_in_bounds c =
    call_ready c.args.table.now c.args.text.now c.args.spellings.now c.args.heads.now c.args.bodies.now _ c.tables_short.ensures
    c.if-tables_short.false _ c.in_ok-folding.ensures.number refl

pub returns : goal.returns
returns c =
    call_read c.args.table.now c.args.text.now c.args.spellings.now c.args.heads.now c.args.bodies.now _ c.tables_short.ensures
    c.if-tables_short.false _ c.in_ok-folding.ensures.number refl c.if-text-gt-TEXT_BYTES.false _ c.in_ok-folding.ensures.letters _
    c.read_formed.ensures
