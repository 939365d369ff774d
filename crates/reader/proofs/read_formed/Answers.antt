-- `reader::read_formed` meets its contract. Assumes nothing.
use mathlib.Core.Path.{◌≡◌, sym, ◌∙◌}
use mathlib.Core.Bool.{true}
use native.Mathlib.Omega.{arith}
use borrow.Author.Tests.{eq-eqb, ne_eqb}
use Rattle.limits.specs.declared.Refusal.TheVariants.{Mark, LastByte}
use Rattle.tables.specs.Reading.{marked}
use Rattle.tables.proofs.Judging.{book_unmarked, book_unended}
use Rattle.reader.proofs.Marking.{mark_long}
use Rattle.reader.proofs.Calling.{refuses, called, used_counts}
use Rattle.reader.proofs.read_formed.Goals as goal
use Rattle.reader.proofs.read_formed.Goals.{Else-not-begins}

-- the text begins with the mark
mark_there : (c : Else-not-begins) → marked c.args.text.now ≡ true
mark_there c = sym c.begins.ensures ∙ c.if-not-begins.false

pub returns-then-not-begins : goal.returns-then-not-begins
returns-then-not-begins c =
    refuses _ _ _ Mark _ c.into.ensures _ (book_unmarked _ c.args.text.now (sym c.begins.ensures ∙ c.if-not-begins.true))

pub overflow_sub-text : goal.overflow_sub-text
overflow_sub-text c = omega (arith, mark_long c.args.text.now (mark_there (goal.at.overflow_sub-text c).Else-not-begins))

pub bounds-text-text : goal.bounds-text-text
bounds-text-text c = omega (arith, mark_long c.args.text.now (mark_there (goal.at.bounds-text-text c).Else-not-begins))

pub returns-then-text-ne-LINE_END : goal.returns-then-text-ne-LINE_END
returns-then-text-ne-LINE_END c =
    refuses _ _ _ LastByte _ c.into-then-text-ne-LINE_END.ensures _
    (book_unended _ c.args.text.now (mark_there (goal.at.returns-then-text-ne-LINE_END c).Else-not-begins) (ne_eqb _ _ c.if-text-ne-LINE_END.true))

pub returns : goal.returns
returns c =
    let left = c.book-answer.ensures in
    let used = used_counts c.book-answer.result c.unwrap_or-used.result c.unwrap_or-used.ensures in
    let e = c.settle.ensures in
    called _ c.args.text.now _ _ _ left.reads _ left.stays (mark_there (goal.at.returns c).Else-not-begins) (eq-eqb _ _ c.if-text-ne-LINE_END.false)
    _ _ used.0 used.1 _ _ _ e.spellings e.heads e.bodies
