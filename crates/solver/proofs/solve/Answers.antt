use mathlib.Core.Path.{refl}
use Rattle.std.specs.Prelude.{Err}
use borrow.Author.Rules.{rules}
use Rattle.limits.specs.Refusal.{number_of}
use Rattle.limits.specs.declared.Refusal.TheVariants.{ShortArea}
use Rattle.scan.proofs.Tables.{short_first, table_next}
use Rattle.solver.proofs.Calls.{lent, handed, call_first, end_refused}
use Rattle.solver.proofs.solve.Goals as goal

pub returns-then-too_short : goal.returns-then-too_short
returns-then-too_short c =
    let a = c.args in
    record {
      solved =
          call_first a.table.now a.text.now a.folds
          (lent a.spellings.now a.heads.now a.bodies.now a.all.now a.any.now a.spare.now a.model.now a.listing.now)
          c.too_short.ensures (short_first _ a.table.now c.if-too_short.true) {x = Err c.into.result} {cause = ShortArea} (search rules) refl;
      end = end_refused {x = Err c.into.result} refl _ _;
    }

pub returns-in_err-folding : goal.returns-in_err-folding
returns-in_err-folding c =
    let a = c.args in
    let x = handed _ c.from_residual.ensures in
    record {
      solved =
          call_first a.table.now a.text.now a.folds
          (lent a.spellings.now a.heads.now a.bodies.now a.all.now a.any.now a.spare.now a.model.now a.listing.now)
          c.too_short.ensures (table_next _ a.table.now (number_of c.in_err-folding.field-0.0) c.if-too_short.false (search rules)) x refl;
      end = end_refused x _ _;
    }
