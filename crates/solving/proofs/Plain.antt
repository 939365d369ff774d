-- The plain route's call: each way out of it, and what document 01 asks of it.
-- Assumes nothing.
use mathlib.Core.Path.{◌≡◌, refl, sym, ◌∙◌, subst}
use mathlib.Core.Logic.{◌↔◌, inl, inr}
use mathlib.Core.Bool.{true, false}
use mathlib.Core.List.{List}
use Prim.Native.Nat.{ℕ, suc, ◌*◌, ◌≤◌, ◌<◌}
use native.Mathlib.Omega.{arith}
use lib.Dec.{ltb}
use borrow.Author.Tests.{eqb-false, ltb-false, le-ltb}
use lib.ListN.{length}
use Rattle.limits.specs.Book.{word_bits, row_words}
use Rattle.limits.specs.Cause.{OneOf, plain_causes}
use Rattle.limits.proofs.Causes.{without, one_found}
use Rattle.sets.specs.Set.{Same, pick, empty_set}
use Rattle.sets.specs.Steps.{First}
use Rattle.sets.proofs.Logic.{either, clash, or_none, pick_true, pick_false, holds, fails}
use Rattle.sets.proofs.Tests.{same_sym}
use Rattle.sets.proofs.Counting.{count_same}
use Rattle.sets.proofs.Theorems.{rising}
use Rattle.program.specs.Program.{Program, InEveryModel, consequence, plain_held, plain_rounds}
use Rattle.program.proofs.Plain.{consequence_mono, plain_held_lem, plain_bound}
use Rattle.tables.specs.Areas.{RuleTables, Counts, program_in}
use Rattle.systems.specs.Rows.{below}
use Rattle.systems.specs.Rounds.{model_in, with_model}
use Rattle.systems.specs.Standardise.{short_rules, formed_tables}
use Rattle.systems.specs.Claims.{StandardFormed}
use Rattle.systems.proofs.Bridge.{formed_tables_lem, formed_program, tables_formed}
use Rattle.systems.proofs.Standard.{rules_long, long_rules}
use Rattle.systems.proofs.Running.{model_rest, model_below, model_below_past}
use Rattle.solving.specs.Plain.{PlainOutcome, short_plain, plain_refusal, plain_of, plain_call}
use Rattle.solving.specs.PlainClaims.{PlainLong, PlainCalls}

-- The tests of the call.

module _ (tables : RuleTables) (model : List ℕ) where
  -- areas that are not too short are long enough
  pub plain_long : short_plain tables model ≡ false → PlainLong tables model
  unfolding short_plain
  plain_long e =
      let h = or_none (short_rules tables) (ltb (length model) row_words) e in
      (rules_long tables h.0, ltb-false (length model) row_words h.1)

  -- and the other way
  pub long_plain : PlainLong tables model → short_plain tables model ≡ false
  unfolding short_plain
  long_plain h = rw (long_rules tables h.0, le-ltb (length model) row_words h.1)

module _ (tables : RuleTables) (counts : Counts) (model : List ℕ) where
  abbrev n : ℕ
  n = counts.names

  abbrev p : Program
  p = program_in tables counts

  -- The ways out.

  abbrev after_short : PlainOutcome
  after_short = pick (formed_tables tables counts) (plain_of p model) (plain_refusal 10 model)

  -- an area too short
  pub plain_short : short_plain tables model ≡ true → plain_call tables counts model ≡ plain_refusal 1 model
  unfolding plain_call
  plain_short e = pick_true (plain_refusal 1 model) after_short e

  -- tables ill formed
  pub plain_ill : short_plain tables model ≡ false → formed_tables tables counts ≡ false
      → plain_call tables counts model ≡ plain_refusal 10 model
  unfolding plain_call
  plain_ill e f = pick_false (plain_refusal 1 model) after_short e ∙ pick_false (plain_of p model) (plain_refusal 10 model) f

  -- the rounds
  pub plain_good : short_plain tables model ≡ false → formed_tables tables counts ≡ true
      → plain_call tables counts model ≡ plain_of p model
  unfolding plain_call
  plain_good e f = pick_false (plain_refusal 1 model) after_short e ∙ pick_true (plain_of p model) (plain_refusal 10 model) f

  -- The claim, at each way out.

  -- a refusal with its number k
  refused : (k : ℕ) → (k ≡ 0 → ⊥) → ((k ≡ 1) ↔ (PlainLong tables model → ⊥))
      → ((k ≡ 10) ↔ (PlainLong tables model × (StandardFormed tables counts → ⊥)))
      → (PlainLong tables model → StandardFormed tables counts → ⊥) → OneOf k plain_causes
      → PlainCalls tables counts model p (plain_refusal k model)
  refused k z short ill none one = record {
    accepts = fails z (λ q. none q.0 q.1);
    short = short;
    ill = ill;
    no_other = inr one;
    kept = λ h. (refl, refl, refl);
    holds = λ h. absurd (z h);
    past = λ h. absurd (z h);
    rest = refl;
    count_held = λ h. absurd (z h);
    first = λ h. absurd (z h);
    bound = λ h. absurd (z h);
  }

  claim_short : short_plain tables model ≡ true → PlainCalls tables counts model p (plain_refusal 1 model)
  unfolding without
  claim_short e =
      let none : PlainLong tables model → ⊥ = λ long. clash e (long_plain tables model long) in
      refused 1 (eqb-false 1 0 refl) (holds refl none) (fails (eqb-false 1 10 refl) (λ q. none q.0)) (λ long formed. none long)
      (one_found 1 1 plain_causes refl refl)

  claim_ill : short_plain tables model ≡ false → formed_tables tables counts ≡ false
      → PlainCalls tables counts model p (plain_refusal 10 model)
  unfolding without
  claim_ill e f =
      let long : PlainLong tables model = plain_long tables model e in
      let none : StandardFormed tables counts → ⊥ = λ g. clash (tables_formed tables counts g) f in
      refused 10 (eqb-false 10 0 refl) (fails (eqb-false 10 1 refl) (λ h. h long)) (holds refl (long, none)) (λ long formed. none formed)
      (one_found 10 10 plain_causes refl refl)

  -- the set in the model area is the one that the plain route reaches
  module _ (f : formed_tables tables counts ≡ true) where
    abbrev left : List ℕ
    left = with_model (below n (plain_held p)) model

    formed : StandardFormed tables counts
    formed = formed_tables_lem tables counts f

    held_is : Same n (model_in left) (plain_held p)
    held_is = let l : n ≤ row_words * word_bits = omega (arith, formed.names_limit) in model_below n (plain_held p) model l

    held_every : (a : ℕ) → a < n → (model_in left a ≡ true) ↔ InEveryModel p a
    held_every a l =
        let h = plain_held_lem p (formed_program tables counts f) a l in
        (λ e. h.0 (sym (held_is a l) ∙ e), λ every. held_is a l ∙ h.1 every)

    rounds_first : (q : ℕ) × (plain_rounds p ≡ suc q) × First n (consequence p) empty_set q
    unfolding plain_rounds
    rounds_first = (rising n (consequence p) empty_set (consequence_mono p) (λ i l e. clash e refl)).first

    claim_good : short_plain tables model ≡ false → PlainCalls tables counts model p (plain_of p model)
    unfolding plain_of
    claim_good e =
        let long : PlainLong tables model = plain_long tables model e in
        record {
          accepts = holds refl (long, formed);
          short = fails (eqb-false 0 1 refl) (λ h. h long);
          ill = fails (eqb-false 0 10 refl) (λ q. q.1 formed);
          no_other = inl refl;
          kept = λ h. absurd (h refl);
          holds = λ h. held_every;
          past = λ h. model_below_past n (plain_held p) model;
          rest = model_rest (below n (plain_held p)) model;
          count_held = λ h. count_same n (plain_held p) (model_in left) (same_sym n (model_in left) (plain_held p) held_is);
          first = λ h. rounds_first;
          bound = λ h. plain_bound p;
        }

-- what is claimed of the plain route on any tables
pub plain_calls : (tables : RuleTables) (counts : Counts) (model : List ℕ)
    → PlainCalls tables counts model (program_in tables counts) (plain_call tables counts model)
plain_calls tables counts model =
    let P : PlainOutcome → Type 0 = PlainCalls tables counts model (program_in tables counts) in
    either (short_plain tables model)
    (λ e. subst P (sym (plain_short tables counts model e)) (claim_short tables counts model e))
    (λ e. either (formed_tables tables counts)
    (λ f. subst P (sym (plain_good tables counts model e f)) (claim_good tables counts model f e))
    (λ f. subst P (sym (plain_ill tables counts model e f)) (claim_ill tables counts model e f)))
