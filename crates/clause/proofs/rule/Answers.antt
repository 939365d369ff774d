-- `clause::rule` meets its contract. Assumes nothing.
use mathlib.Core.Path.{◌≡◌, sym, ap, ◌∙◌, subst}
use mathlib.Core.Bool.{true, false}
use Prim.Native.Nat.{ℕ}
use lib.ListN.{drop}
use borrow.Author.Rules.{rules}
use Rattle.std.specs.Prelude.{is_some}
use Rattle.std.specs.Option.{unwrap_or}
use Rattle.limits.specs.Refusal.{number_in}
use Rattle.grammar.specs.Bytes.{letters, colon}
use Rattle.grammar.specs.Grammar.{fault}
use Rattle.grammar.specs.Lines.{is_name, starts, word_fault}
use Rattle.grammar.proofs.Sorts.{byte_some, word_some}
use Rattle.scan.specs.declared.cursor.Cursor.{Cursor}
use Rattle.scan.specs.Places.{name_run, name_folded}
use Rattle.clause.specs.Line.{LineEnds, line_at}
use Rattle.clause.specs.Found.{Meeting, Bodied}
use Rattle.clause.specs.Held.{held, at_in, room_in}
use Rattle.clause.proofs.Forms.{headless, uncoloned, closed_body}
use Rattle.clause.proofs.Rows.{row_clear}
use Rattle.clause.proofs.Saying.{said_fault, said_body, said_head, head_found}
use Rattle.clause.proofs.rule.Goals as goal

pub returns-in_default-clause-said : goal.returns-in_default-clause-said
returns-in_default-clause-said c =
    let fold = letters c.args.folding.now in
    let t = c.args.text.now in
    let at : c.word-head.result.at ≡ c.args.cursor.at = c.word-head.ensures.begins in
    let none = subst (λ (i : ℕ). is_name fold (name_run fold t i) ≡ false) at (c.name.ensures.none c.in_default.is) in
    let number = c.word_fault.ensures ∙ ap (λ (i : ℕ). word_fault fold (line_at t i)) at in
    said_fault fold t c.args.cursor.at (held c.args.lexicon.now) _ _ _ _ c.args.row.now
    (headless fold c.passes.ensures.1 t c.args.cursor.at c.requires.line_ends.0 c.requires.line_ends.1 none ∙ ap fault (sym number))
    (λ o. word_some fold (line_at t c.args.cursor.at) (sym number ∙ o))

pub returns-then-not-sees-clause-said : goal.returns-then-not-sees-clause-said
returns-then-not-sees-clause-said c =
    let fold = letters c.args.folding.now in
    let t = c.args.text.now in
    let good = subst (λ (i : ℕ). is_name fold (name_run fold t i) ≡ true) c.word-head.ensures.begins c.in-Some.ensures.name.1 in
    let none : starts colon (drop c.behind-colon.result.at t) ≡ false = search rules in
    said_fault fold t c.args.cursor.at (held c.args.lexicon.now) _ _ _ _ c.args.row.now
    (uncoloned fold c.passes.ensures.1 t c.args.cursor.at c.requires.line_ends.0 c.requires.line_ends.1 _
    c.behind-colon.ensures.at good none ∙ ap fault (sym c.byte_fault.ensures))
    (λ o. byte_some _ _ (sym c.byte_fault.ensures ∙ o))

pub body-requires-clause-line_ends : goal.body-requires-clause-line_ends
body-requires-clause-line_ends c =
    let seen : starts colon (drop c.behind-colon.result.at c.args.text.now) ≡ true = search rules in
    subst (λ (k : Cursor). LineEnds c.args.text.now k.at) (sym c.moved.ensures)
    (closed_body _ c.passes.ensures.1 c.args.text.now c.args.cursor.at c.requires.line_ends.0 c.requires.line_ends.1 _
    c.behind-colon.ensures.at seen)

pub returns-clause-said : goal.returns-clause-said
returns-clause-said c =
    let fold = letters c.args.folding.now in
    let t = c.args.text.now in
    let x = held c.args.lexicon.now in
    let y = held c.meet-number.new.lexicon in
    let z = held c.body.new.lexicon in
    let begins = c.word-head.ensures.begins in
    let good = subst (λ (i : ℕ). is_name fold (name_run fold t i) ≡ true) begins c.in-Some.ensures.name.1 in
    let seen : starts colon (drop c.behind-colon.result.at t) ≡ true = search rules in
    let met = subst (λ w. Meeting w (is_some c.meet-number.result) (unwrap_or c.meet-number.result 0) x y) (c.in-Some.ensures.name.0 ∙ ap (name_folded fold t) begins)
    c.meet-number.ensures.met in
    said_head fold t c.args.cursor.at x _ _ (room_in c.body.result) _ _ z c.body.new.row
    (head_found c.body.result c.meet-number.result _ c.body.ensures.head)
    (said_body fold c.passes.ensures.1 t c.args.cursor.at _ c.requires.line_ends.0 c.requires.line_ends.1 good
    c.behind-colon.ensures.at seen x _ _ y met _ _ _ z _ _
    (row_clear c.args.row.now c.requires.clear)
    (subst (λ (k : Cursor). Bodied fold t k.at (is_some c.meet-number.result) y (number_in c.body.result) (at_in c.body.result)
    (room_in c.body.result) z c.args.row.now c.body.new.row) c.moved.ensures c.body.ensures.body))
