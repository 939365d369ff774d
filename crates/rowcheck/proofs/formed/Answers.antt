-- `rowcheck::formed` meets its contract: `all` tests every row below the count. Assumes nothing.
use Rattle.std.proofs.Common.{rules, tests, ltb, ℕ}
use Rattle.limits.specs.Book.{atoms, row_words}
use Rattle.sets.specs.Set.{within}
use Rattle.sets.proofs.Below.{every_below}
use Rattle.systems.specs.Rows.{row_in}
use Rattle.rowcheck.proofs.Counted.{rows_kept, rows_lost}
use Rattle.rowcheck.proofs.formed.Goals as goal

pub returns-then-kept : goal.returns-then-kept
returns-then-kept c =
    let test = λ (i : ℕ). within atoms (row_in row_words c.args.area.now i) (λ k. ltb k c.args.count) in
    let e = every_below test _ _ _ _ c.all-kept.ensures.ran (λ x b q k. search (rules, tests)) in
    rows_kept c.args.area.now c.args.count c.if-count-gt-ATOMS.false c.requires c.all-kept.result e c.if-kept.true _ _ c.row_at.ensures
    c.empty.ensures

pub returns-else-kept : goal.returns-else-kept
returns-else-kept c =
    let test = λ (i : ℕ). within atoms (row_in row_words c.args.area.now i) (λ k. ltb k c.args.count) in
    let e = every_below test _ _ _ _ c.all-kept.ensures.ran (λ x b q k. search (rules, tests)) in
    rows_lost c.args.area.now c.args.count c.if-count-gt-ATOMS.false c.requires c.all-kept.result e c.if-kept.false
