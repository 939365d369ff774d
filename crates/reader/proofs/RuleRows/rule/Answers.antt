-- `reader::RuleRows::rule` meets its contract: each answer rests on what is known once the rule is found. Assumes nothing.
use mathlib.Core.Path.{◌≡◌, refl}
use mathlib.Core.List.{List}
use Prim.Native.Nat.{ℕ, ◌+◌, ◌-◌, ◌≤◌}
use lib.ListN.{length}
use borrow.Author.Rules.{rules}
use borrow.Rule.Slice.PartMut.{put_mid}
use Rattle.limits.specs.Book.{body_words}
use Rattle.reader.proofs.Lending.{back_long, back_in, back_row}
use native.Mathlib.Omega.{arith}
use Rattle.grammar.specs.Bytes.{letters}
use Rattle.std.proofs.lemmas.Result.{err_from_is_err_and}
use Rattle.clause.specs.Held.{held, at_in, room_in, head_in}
use Rattle.limits.specs.Refusal.{number_in}
use Rattle.reader.specs.State.{tables_in}
use Rattle.reader.proofs.Stepping.{end_room, Behind, stayed_refused, stepped_fault, stepped_full, stepped_over, entering, stayed_rule, stepped_rule}
use Rattle.limits.proofs.Numbers.{number_some}
use Rattle.reader.proofs.RuleRows.rule.Goals.{After-rule_at}
use Rattle.reader.proofs.RuleRows.rule.Goals as goal

-- the bodies once the row from a place is handed back
abbrev bodies_after : ℕ → List ℕ → List ℕ → List ℕ
bodies_after at old row = put_mid at (at + body_words - at) old row

behind : (c : After-rule_at)
    → Behind (letters c.args.source.now.folding.now) c.args.source.now.text.now c.args.head.at (tables_in c.args.lexicon.now c.args.self.now)
    c.row_after-at.result (bodies_after c.row_after-at.result c.args.self.now.bodies.now c.rule_at.new.row) (number_in c.rule_at.result) (at_in c.rule_at.result) (room_in c.rule_at.result)
    (head_in c.rule_at.result) (held c.rule_at.new.lexicon)
behind c =
    let at = c.row_after-at.result in
    let old = c.args.self.now.bodies.now in
    let row = c.rule_at.new.row in
    let room : at + body_words ≤ length old = omega (arith, c.row_after-at.ensures.within, c.requires.booked.1.bodies_long) in
    let size : length row ≡ body_words = search rules in
    record {
      law = c.passes.ensures.1;
      closed = c.requires.line_ends.0;
      loud = c.requires.line_ends.1;
      clauses = c.requires.booked.0;
      booked = c.requires.booked.1;
      in_area = c.row_after-at.ensures.within;
      own = c.row_after-at.ensures.own;
      as_long = back_long at body_words old row _ room size refl;
      rows = back_in at body_words old row _ room size refl;
      said = rw (back_row at body_words old row _ room size refl) c.rule_at.ensures.said;
    }

pub returns-in_err-found : goal.returns-in_err-found
returns-in_err-found c =
    let k = rw c.in_err-found.was at (behind (goal.at.returns-in_err-found c).After-rule_at) in
    let e = err_from_is_err_and c.from_residual.result c.from_residual.ensures.1 in
    record {
      same_names = c.rule_at.ensures.same;
      same_rows = (refl, refl);
      stays = stayed_refused k _ _;
      steps = λ cs b. rw (e.1, e.2) (stepped_fault k (number_some c.in_err-found.field-0.0) cs _ _ _ _);
    }

pub returns-then-m-eq-RULES-clause-stays : goal.returns-then-m-eq-RULES-clause-stays
returns-then-m-eq-RULES-clause-stays c = stayed_refused (behind (goal.at.returns-then-m-eq-RULES-clause-stays c).After-rule_at) _ _

pub returns-then-m-eq-RULES-clause-steps : goal.returns-then-m-eq-RULES-clause-steps
returns-then-m-eq-RULES-clause-steps c =
    let k = rw c.in_ok-found.was at (behind (goal.at.returns-then-m-eq-RULES-clause-steps c).After-rule_at) in
    λ cs b. stepped_full k refl c.if-m-eq-RULES.true cs b _ _ _ _

pub returns-in_default-clause-stays : goal.returns-in_default-clause-stays
returns-in_default-clause-stays c = stayed_refused (behind (goal.at.returns-in_default-clause-stays c).After-rule_at) _ _

pub returns-in_default-clause-steps : goal.returns-in_default-clause-steps
returns-in_default-clause-steps c =
    let k = rw (c.in_ok-found.was, c.in_default.is) at (behind (goal.at.returns-in_default-clause-steps c).After-rule_at) in
    λ cs b. stepped_over k refl c.if-m-eq-RULES.false refl cs b _ _ _ _

pub overflow_cast-self : goal.overflow_cast-self
overflow_cast-self c =
    let k = rw (c.in_ok-found.was, c.in-Some.is) at (behind (goal.at.overflow_cast-self c).After-rule_at) in
    record { fits = omega (arith, (entering k refl c.if-m-eq-RULES.false refl).1) }

pub next_line-requires : goal.next_line-requires
next_line-requires c =
    let e = c.in_ok-found.ensures in
    end_room c.args.source.now.text.now c.args.head.at c.args.head.line _ _ c.requires.line_ends.0 c.args.source.now.within c.requires.place
    (e.said.ends refl) e.line

pub returns : goal.returns
returns c =
    let k = rw (c.in_ok-found.was, c.in-Some.is) at (behind (goal.at.returns c).After-rule_at) in
    rw c.next_line.ensures (record {
      same_names = c.rule_at.ensures.same;
      same_rows = (refl, refl);
      stays = stayed_rule k refl c.if-m-eq-RULES.false refl _ refl _ _;
      steps = λ cs b. stepped_rule k refl c.if-m-eq-RULES.false refl _ refl cs b c.args.head.line _ c.in_ok-found.ensures.line;
    })
