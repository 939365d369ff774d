-- The call for C: every number exactly where document 01 gives it.
-- Assumes nothing.
use mathlib.Core.Path.{◌≡◌, refl, sym, ap, ap₂, subst, ◌∙◌}
use mathlib.Core.Bool.{true}
use mathlib.Core.Logic.Iff
use mathlib.Core.Logic.{◌⊎◌, inl, inr, ◌↔◌, ⊎_elim}
use mathlib.Core.List.{List, ◌∷◌}
use Prim.Native.Nat.{ℕ, ◌/◌, ◌%◌, ◌≤◌, ◌<◌}
use native.Mathlib.Omega.{arith}
use lib.Dec.{eqb, ltb}
use lib.ListN.{length}
use borrow.Author.Tests.{eqb-true, eqb-false, ltb-true, ltb-false}
use Rattle.limits.specs.Book.{letter_bytes, listing_bytes}
use Rattle.limits.specs.Cause.{OneOf, line_causes, solve_causes, host_causes}
use Rattle.limits.proofs.Causes.{without, other, inside, one_inside, solve_left}
use Rattle.sets.proofs.Logic.{either}
use Rattle.grammar.specs.Bytes.{Bytes, letters}
use Rattle.grammar.specs.Letters.{FoldTable}
use Rattle.grammar.proofs.Letters.{fold_reserved, fold_unsettled}
use Rattle.solving.specs.Solve.{SolveAreas, SolveOutcome, solve_call}
use Rattle.solving.specs.SolveClaims.{SolveLong, SolveReady, InRange, SolveJudges}
use Rattle.solving.proofs.Judging.{solve_judges}
use Rattle.solving.proofs.Theorems.{books_solved}
use Rattle.solving.proofs.Past.{solve_past}
use Rattle.hosting.specs.List.{own_areas, seen, list_call}
use Rattle.hosting.specs.Call.{refusal_unit, as_one, called, host_call}
use Rattle.hosting.specs.Claims.{HostRange, CallJudges}
use Rattle.hosting.proofs.Range.{Ranged, list_range, number_back, line_back}
use Rattle.hosting.proofs.Ways.{own_long}

-- two refusals that are one number are one refusal
pub same_one : (a b c d : ℕ) → b < refusal_unit → d < refusal_unit → as_one a b ≡ as_one c d → (a ≡ c) × (b ≡ d)
same_one a b c d l m e = (
  sym (number_back a b l) ∙ ap (λ (n : ℕ). n / refusal_unit) e ∙ number_back c d m,
  sym (line_back a b l) ∙ ap (λ (n : ℕ). n % refusal_unit) e ∙ line_back c d m,
)

module _ (table : List ℕ) (passes : FoldTable table) (t : Bytes) (k : ℕ) (old : Bytes) where
  abbrev fold : ℕ → ℕ
  fold = letters table

  -- what the solver answers and leaves, and what is known of it
  abbrev own : SolveAreas
  own = own_areas old

  abbrev r : SolveOutcome
  r = solve_call table t k own

  judges : SolveJudges table t k own r
  judges = solve_judges table t k own

  -- the call by it
  pub call_is : host_call table t k old ≡ called (seen r)
  unfolding host_call list_call
  call_is = refl

  -- number and line are in range
  ranges : Ranged r.answer.number r.answer.line
  unfolding list_call
  ranges = list_range table t k old

  -- the solver's ranges are the host's
  to_host : InRange table t k own → HostRange t k old
  to_host p = (p.0.0.listing, p.1, p.2)

  ready : listing_bytes ≤ length old → SolveReady table own
  ready l = (own_long old l, passes)

  from_host : HostRange t k old → InRange table t k own
  from_host p = (ready p.0, p.1, p.2)

  -- A number that comes with line 0, exactly where A holds: the number returned is that, exactly where A holds.
  one_way : {A : Type 0} (q : ℕ) → (r.answer.number ≡ q) ↔ A → (r.answer.number ≡ q → r.answer.line ≡ 0)
      → (as_one r.answer.number r.answer.line ≡ as_one q 0) ↔ A
  one_way q (to, from) line = (
    λ e. to (same_one r.answer.number r.answer.line q 0 (omega (arith, ranges.1)) (omega arith) e).0,
    λ a. ap₂ as_one (from a) (line (from a)),
  )

  -- a number that is no cause of a line has no line
  no_line : (q : ℕ) → without q line_causes ≡ true → r.answer.number ≡ q → r.answer.line ≡ 0
  no_line q e z =
      either (eqb r.answer.line 0) (λ l. eqb-true r.answer.line 0 l)
      (λ l. absurd (other q r.answer.number line_causes e (judges.lined.0 (eqb-false r.answer.line 0 l)) z))

  -- areas and table are long enough but for a listing area too short
  short_way : (SolveLong own × (letter_bytes ≤ length table) → ⊥) ↔ (length old < listing_bytes)
  short_way = (
    λ h.
        either (ltb (length old) listing_bytes) (λ e. ltb-true (length old) listing_bytes e)
        (λ e. absurd (h (own_long old (ltb-false (length old) listing_bytes e), passes.0))),
    λ l long. omega (arith, long.0.listing),
  )

  -- 20 and 21 are never given, since the table passes
  not_letters : (n : ℕ) → n ≡ r.answer.number → OneOf n solve_causes → OneOf n host_causes
  unfolding inside without OneOf
  not_letters n e m =
      ⊎_elim (λ (z : n ≡ 20). absurd (fold_reserved table passes.1 (judges.letters_judged.reserved.0 (sym e ∙ z)).2))
      (⊎_elim (λ (z : n ≡ 21). absurd (fold_unsettled table passes.1 (judges.letters_judged.unsettled.0 (sym e ∙ z)).3))
      (λ i. i))
      (one_inside n solve_causes (20 ∷ 21 ∷ host_causes) refl m)

  -- a refusal leaves the listing area as it was
  as_it_was : (r.answer.number ≡ 0 → ⊥) → r.areas.listing ≡ old
  as_it_was some =
      let listing : SolveOutcome → Bytes = λ x. x.areas.listing in
      ⊎_elim (λ (z : r.answer.number ≡ 0). absurd (some z))
      (λ m.
      solve_left r.answer.number m (λ i. ap listing (judges.kept i)) (λ i. ap listing (judges.cleared i))
      (λ z. let p = judges.over_atoms.0 z in ap listing (judges.left_8 p.1.0 p.1.1 z)))
      judges.no_other

  -- the number and the line, read back from the one number
  back_number : as_one r.answer.number r.answer.line / refusal_unit ≡ r.answer.number
  back_number = number_back r.answer.number r.answer.line (omega (arith, ranges.1))

  back_line : as_one r.answer.number r.answer.line % refusal_unit ≡ r.answer.line
  back_line = line_back r.answer.number r.answer.line (omega (arith, ranges.1))

  -- a number with its line, exactly where A holds in range: the number returned is both in one, exactly there
  one_lined : {A : Type 0} (q line : ℕ) → line < refusal_unit
      → ((r.answer.number ≡ q) × (r.answer.line ≡ line)) ↔ (InRange table t k own × A)
      → (as_one r.answer.number r.answer.line ≡ as_one q line) ↔ (HostRange t k old × A)
  one_lined q line l (to, from) = (
    λ e. let p = to (same_one r.answer.number r.answer.line q line (omega (arith, ranges.1)) l e) in (to_host p.0, p.1),
    λ p. let s = from (from_host p.0, p.1) in ap₂ as_one s.0 s.1,
  )

  -- what is claimed of the call, by the solver's outcome
  seen_judges : CallJudges fold t k old (called (seen r))
  unfolding without
  seen_judges = record {
    accepts = one_way 0 (Iff.trans judges.accepts (λ p. (to_host p.0, p.1), λ p. (from_host p.0, p.1))) (no_line 0 refl);
    short = one_way 1 (Iff.trans judges.letters_judged.short short_way) (no_line 1 refl);
    long_text = one_way 2 (Iff.trans judges.long_text (λ p. (p.0.0.listing, p.1), λ p. (ready p.0, p.1))) (no_line 2 refl);
    over_folds = one_way 9 (Iff.trans judges.over_folds (λ p. (p.0.0.listing, p.1, p.2), λ p. (ready p.0, p.1, p.2))) (no_line 9 refl);
    text = λ q line m l. one_lined q line l (judges.text q line m);
    faults = λ q line m l. one_lined q line l ((books_solved table).faults t k own q line m);
    over_atoms = one_way 8 (Iff.trans judges.over_atoms (λ p. (to_host p.0, p.1), λ p. (from_host p.0, p.1))) (no_line 8 refl);
    no_other =
        subst (λ (n : ℕ). (n ≡ 0) ⊎ OneOf n host_causes) (sym back_number)
        (⊎_elim inl (λ m. inr (not_letters r.answer.number refl m)) judges.no_other);
    lined =
        subst (λ (n : ℕ). (as_one r.answer.number r.answer.line % refusal_unit ≡ 0 → ⊥) ↔ OneOf n line_causes) (sym back_number)
        (subst (λ (l : ℕ). (l ≡ 0 → ⊥) ↔ OneOf r.answer.number line_causes) (sym back_line) judges.lined);
    line = omega (arith, ranges.1, back_line);
    kept = λ h. as_it_was (λ z. h (ap₂ as_one z (no_line 0 refl z)));
    past = (solve_past table t k own).listing;
  }

  -- 0 is returned only where nothing is refused
  pub none_refused : (host_call table t k old).returned ≡ 0 → (list_call table t k old).number ≡ 0
  unfolding host_call list_call
  none_refused z = (same_one r.answer.number r.answer.line 0 0 (omega (arith, ranges.1)) (omega arith) z).0

  pub call_judges : CallJudges fold t k old (host_call table t k old)
  call_judges = subst (CallJudges fold t k old) (sym call_is) seen_judges
