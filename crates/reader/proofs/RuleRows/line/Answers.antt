-- `reader::RuleRows::line` meets its contract: behind the blanks, each answer rests on what is known of the line's head. Assumes nothing.
use mathlib.Core.Path.{sym, ap, ◌∙◌}
use Rattle.grammar.specs.Bytes.{letters}
use Rattle.scan.specs.declared.cursor.Cursor.{Cursor}
use Rattle.reader.proofs.Silent.{remark}
use Rattle.reader.proofs.Stepping.{end_room, stepped_silent, Headed, head_closed, blank_form, blank_end, stepped_head}
use Rattle.reader.proofs.RuleRows.line.Goals.{After-past_blanks-head}
use Rattle.reader.proofs.RuleRows.line.Goals as goal

headed : (c : After-past_blanks-head) → Headed (letters c.args.source.now.folding.now) c.args.source.now.text.now c.args.cursor.at c.past_blanks-head.result.at
headed c =
    record {
      law = c.passes.ensures.1;
      closed = c.requires.line_ends;
      plain = sym c.sees.ensures ∙ c.if-sees.false;
      blanks = ap (λ (k : Cursor). k.at) c.past_blanks-head.ensures;
    }

pub next_line-requires : goal.next_line-requires
next_line-requires c =
    let e = c.past_line-end.ensures in
    end_room c.args.source.now.text.now c.args.cursor.at c.args.cursor.line _ _ c.requires.line_ends c.args.source.now.within c.requires.place
    (ap (λ (k : Cursor). k.at) e) (ap (λ (k : Cursor). k.line) e)

pub returns-then-sees-clause-steps : goal.returns-then-sees-clause-steps
returns-then-sees-clause-steps c =
    let e = c.past_line-end.ensures in
    λ cs b. rw c.next_line.ensures (stepped_silent cs _ _ c.args.cursor.line _ _ _
    (remark _ c.passes.ensures.1 c.args.source.now.text.now c.args.cursor.at c.requires.line_ends (sym c.sees.ensures ∙ c.if-sees.true))
    (ap (λ (k : Cursor). k.at) e) (ap (λ (k : Cursor). k.line) e) b)

pub next_line-requires-then-sees-2 : goal.next_line-requires-then-sees-2
next_line-requires-then-sees-2 c =
    let k = headed (goal.at.next_line-requires-then-sees-2 c).After-past_blanks-head in
    end_room c.args.source.now.text.now c.args.cursor.at c.args.cursor.line _ _ c.requires.line_ends c.args.source.now.within c.requires.place
    (blank_end k (sym c.sees-2.ensures ∙ c.if-sees-2.true)) (ap (λ (k : Cursor). k.line) c.past_blanks-head.ensures)

pub returns-then-sees-2-clause-steps : goal.returns-then-sees-2-clause-steps
returns-then-sees-2-clause-steps c =
    let k = headed (goal.at.returns-then-sees-2-clause-steps c).After-past_blanks-head in
    let e = sym c.sees-2.ensures ∙ c.if-sees-2.true in
    λ cs b. rw c.next_line-then-sees-2.ensures (stepped_silent cs _ _ c.args.cursor.line _ _ _ (blank_form k e) (blank_end k e)
    (ap (λ (k : Cursor). k.line) c.past_blanks-head.ensures) b)

pub rule-requires-clause-line_ends : goal.rule-requires-clause-line_ends
rule-requires-clause-line_ends c =
    (head_closed (headed (goal.at.rule-requires-clause-line_ends c).After-past_blanks-head), sym c.sees-2.ensures ∙ c.if-sees-2.false)

pub returns-clause-steps : goal.returns-clause-steps
returns-clause-steps c =
    let k = headed (goal.at.returns-clause-steps c).After-past_blanks-head in
    λ cs b. stepped_head k cs _ _ _ _ _ _ (ap (λ (k : Cursor). k.line) c.past_blanks-head.ensures) (c.rule.ensures.steps cs b)
