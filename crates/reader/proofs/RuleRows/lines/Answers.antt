use mathlib.Core.Path.{◌≡◌, refl, sym, ap, ◌∙◌}
use Prim.Native.Nat.{ℕ}
use borrow.Author.Rules.{rules}
use Rattle.std.specs.Prelude.{Result, Ok, Err, MatchResult}
use Rattle.std.specs.Result.{IsErrAnd}
use Rattle.std.proofs.lemmas.Result.{err_from_is_err_and}
use Rattle.limits.specs.declared.Refusal.{Refusal}
use Rattle.limits.specs.declared.Refused.{Refused}
use Rattle.scan.specs.declared.cursor.Cursor.{Cursor}
use Rattle.limits.proofs.Numbers.{number_some}
use Rattle.reader.proofs.Lining.{going_start, going_end, going_closed, going_stop, going_on}
use Rattle.reader.proofs.RuleRows.lines.Goals as goal

pub loop-cursor-init : goal.loop-cursor-init
loop-cursor-init c =
    let r = c.requires.formed in
    record {
      same_names = (refl, refl, refl);
      same_rows = (refl, refl);
      going = rw c.first_line-cursor.ensures (going_start _ c.args.source.now.text.now _ c.args.source.now.within r.0 r.1 c.requires.booked);
    }

pub line-requires-clause-line_ends : goal.line-requires-clause-line_ends
line-requires-clause-line_ends c = going_closed _ _ _ _ _ _ c.loop-cursor.invariant.going c.loop-cursor-test.true

pub returns-clause-reads : goal.returns-clause-reads
returns-clause-reads c = going_end _ _ _ _ _ _ c.loop-cursor.invariant.going c.loop-cursor-test.false

-- A line that is read is handed on as it is, and one that is refused gets its number.
handed_on : (r : Result Cursor Refusal) (C : Refusal → Refused → Type 0) (s : Result Cursor Refused)
    → MatchResult r (λ x. s ≡ Ok x) (λ e. IsErrAnd s (C e)) → (x : Cursor) → s ≡ Ok x → r ≡ Ok x
handed_on (Ok y) C s m x e = cc
handed_on (Err k) C (Ok y) m x e = absurd m
handed_on (Err k) C (Err q) m x e = absurd (cc)

numbered : (r : Result Cursor Refusal) (C : Refusal → Refused → Type 0) (s : Result Cursor Refused)
    → MatchResult r (λ x. s ≡ Ok x) (λ e. IsErrAnd s (C e)) → (line : ℕ)
    → ((e : Refusal) (q : Refused) → C e q → q ≡ record { cause = e; line = line }) → (q : Refused) → s ≡ Err q
    → (r ≡ Err q.cause) × (q.line ≡ line)
numbered (Ok y) C s m line by q e = absurd (cc)
numbered (Err k) C (Ok y) m line by q e = absurd m
numbered (Err k) C (Err p) m line by q e =
    let same : q ≡ p = cc in
    let w : q ≡ record { cause = k; line = line } = same ∙ by k p m in
    (ap Err (sym (ap (λ (z : Refused). z.cause) w)), ap (λ (z : Refused). z.line) w)

pub returns-in_err-cursor-clause-refuses : goal.returns-in_err-cursor-clause-refuses
returns-in_err-cursor-clause-refuses c =
    let g = c.loop-cursor.invariant.going in
    let p = err_from_is_err_and c.from_residual.result c.from_residual.ensures.1 in
    let n = numbered c.line.result _ c.map_err.result c.map_err.ensures.cases c.loop-cursor.cursor.line (λ e q k. search rules) _ c.in_err-cursor.was in
    rw (p.1, p.2, n.1)
    (going_stop _ _ _ _ _ _ g c.loop-cursor-test.true _ _ _ _ (rw n.0 at (c.line.ensures.steps g.cs g.booked)) (number_some c.in_err-cursor.field-0.0.cause))

pub loop-cursor-preserved : goal.loop-cursor-preserved
loop-cursor-preserved c =
    let g = c.loop-cursor.invariant.going in
    let e = c.line.ensures in
    let n = e.same_names in
    let s = c.loop-cursor.invariant.same_names in
    let r = c.loop-cursor.invariant.same_rows in
    let here = handed_on c.line.result _ c.map_err.result c.map_err.ensures.cases _ c.in_ok-cursor.was in
    record {
      same_names = (n.0 ∙ s.0, n.1 ∙ s.1, n.2 ∙ s.2);
      same_rows = (e.same_rows.0 ∙ r.0, e.same_rows.1 ∙ r.1);
      going = going_on _ _ _ _ _ _ g c.loop-cursor-test.true _ _ _ _ (rw here at (e.steps g.cs g.booked)) refl e.stays;
    }
