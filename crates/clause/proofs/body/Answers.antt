use mathlib.Core.Path.{◌≡◌, refl, ap, ◌∙◌, subst}
use mathlib.Core.Bool.{true, false}
use Prim.Native.Nat.{ℕ}
use lib.ListN.{drop}
use borrow.Author.Rules.{rules}
use Rattle.std.specs.Prelude.{is_some}
use Rattle.grammar.specs.Bytes.{line_end, letters}
use Rattle.grammar.specs.Lines.{is_name, starts}
use Rattle.scan.specs.declared.cursor.Cursor.{Cursor}
use Rattle.scan.specs.Places.{name_run}
use Rattle.clause.specs.Held.{held}
use Rattle.clause.proofs.Forms.{walk_less}
use Rattle.clause.proofs.Joining.{some_self, some_on}
use Rattle.clause.proofs.Passing.{passed_start, passed_more, passed_fault, passed_end}
use Rattle.clause.proofs.body.Goals as goal

pub loop-word-init : goal.loop-word-init
loop-word-init c = record {
  passed = passed_start _ c.passes.ensures.1 c.args.source.now.text.now c.args.cursor.at _ (is_some c.args.head) (held c.args.lexicon.now) c.args.row.now
      c.requires.in_order c.requires.line_ends (ap (λ (k : Cursor). k.at) c.past_blanks-here.ensures);
  same = (refl, refl, refl);
  row_len = refl;
  line = refl;
  head = some_self c.args.head;
}

pub returns-in_default-clause-body : goal.returns-in_default-clause-body
returns-in_default-clause-body c =
    let more : starts line_end (drop c.loop-word.here.at c.args.source.now.text.now) ≡ false = search rules in
    passed_fault _ c.passes.ensures.1 _ _ _ _ _ _ _ _ _ c.loop-word.invariant.passed c.args.cursor.at c.requires.line_ends
    (ap (λ (k : Cursor). k.at) c.past_blanks-here.ensures) _ _ _ more _ c.word-word.ensures.begins (c.name.ensures.none c.in_default.is)
    c.word_fault.ensures

pub loop-word-smaller : goal.loop-word-smaller
loop-word-smaller c =
    let fold = letters c.args.source.now.folding.now in
    walk_less fold c.passes.ensures.1 c.args.source.now.text.now _ c.loop-word.here.at c.loop-word.invariant.passed.words c.loop-word.invariant.passed.walk _
    (subst (λ (n : ℕ). is_name fold (name_run fold c.args.source.now.text.now n) ≡ true) c.word-word.ensures.begins c.in-Some.ensures.name.1)
    c.behind-here.ensures.at

pub loop-word-preserved : goal.loop-word-preserved
loop-word-preserved c =
    let more : starts line_end (drop c.loop-word.here.at c.args.source.now.text.now) ≡ false = search rules in
    record {
      passed = passed_more _ c.passes.ensures.1 _ _ _ _ _ _ _ _ _ c.loop-word.invariant.passed _
          (is_some c.join-head.result) (held c.join-head.new.lexicon) c.join-head.new.row more _ c.word-word.ensures.begins
          c.in-Some.ensures.name.1 _ c.in-Some.ensures.name.0
          c.behind-here.ensures.at c.join-head.ensures.kept c.join-head.ensures.joins;
      same = search rules;
      row_len = c.join-head.auto.row ∙ c.loop-word.invariant.row_len;
      line = c.behind-here.ensures.line ∙ c.loop-word.invariant.line;
      head = some_on c.args.head c.loop-word.head c.join-head.result c.loop-word.invariant.head c.join-head.ensures.head;
    }

pub returns-clause-body : goal.returns-clause-body
returns-clause-body c =
    let ends : starts line_end (drop c.loop-word.here.at c.args.source.now.text.now) ≡ true = search rules in
    passed_end _ c.passes.ensures.1 _ _ _ _ _ _ _ _ _ c.loop-word.invariant.passed c.args.cursor.at c.requires.line_ends
    (ap (λ (k : Cursor). k.at) c.past_blanks-here.ensures) ends
