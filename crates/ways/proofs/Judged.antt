-- Tables judged: what each test settles, and what follows where they are in order.
-- Assumes nothing.
use mathlib.Core.Path.{◌≡◌, ◌∙◌}
use mathlib.Core.Bool.{true, false}
use mathlib.Core.Logic.{◌⊎◌, inl, inr}
use Prim.Native.Nat.{◌<◌}
use lib.ListN.{length}
use borrow.Author.Tests.{lt-ltb}
use Rattle.limits.specs.declared.Refusal.{Refusal}
use Rattle.limits.specs.Refusal.{number_of}
use Rattle.limits.specs.Book.{rules, body_area}
use Rattle.limits.proofs.Numbers.{number_some}
use Rattle.sets.proofs.Logic.{either, or_left, or_right, pick_true, pick_false}
use Rattle.systems.specs.Standardise.{short_rules, formed_tables}
use Rattle.systems.specs.Claims.{TablesLong}
use Rattle.systems.proofs.Standard.{long_rules}
use Rattle.systems.proofs.Bridge.{formed_limits}
use Rattle.ways.specs.Tables.{InUse, InOrder, Fit, tables_cause}
use Rattle.ways.proofs.Counts.{heads_below}

pub fit : (b : InUse) → InOrder b → Fit b
fit b o = record { few = (formed_limits b.tables b.counts o.formed).1; heads = heads_below b.tables b.counts o.formed }

-- heads or bodies too short: 1
pub few_heads_cause : (b : InUse) → length b.tables.heads < rules → tables_cause b ≡ 1
unfolding tables_cause short_rules
few_heads_cause b l = pick_true _ _ (or_left _ (lt-ltb (length b.tables.heads) rules l))

pub few_bodies_cause : (b : InUse) → length b.tables.bodies < body_area → tables_cause b ≡ 1
unfolding tables_cause short_rules
few_bodies_cause b l = pick_true _ _ (or_right _ (lt-ltb (length b.tables.bodies) body_area l))

-- tables ill formed: 10
pub ill_cause : (b : InUse) → TablesLong b.tables → formed_tables b.tables b.counts ≡ false → tables_cause b ≡ 10
unfolding tables_cause
ill_cause b l e = pick_false _ _ (long_rules b.tables l) ∙ pick_false _ _ e

-- tables in order: 0
pub good_cause : (b : InUse) → InOrder b → tables_cause b ≡ 0
unfolding tables_cause
good_cause b o = pick_false _ _ (long_rules b.tables o.long) ∙ pick_true _ _ o.formed

-- each test of judging
pub ruleset judging = (few_heads_cause, few_bodies_cause, ill_cause, good_cause)

-- tables that are refused are too short, which is number 1, or ill formed, which is 10
pub refused_tables : (b : InUse) (cause : Refusal) → number_of cause ≡ tables_cause b
    → ((short_rules b.tables ≡ true) × (number_of cause ≡ 1))
    ⊎ ((short_rules b.tables ≡ false) × (formed_tables b.tables b.counts ≡ false) × (number_of cause ≡ 10))
unfolding tables_cause
refused_tables b cause e =
    either (short_rules b.tables)
    (λ t. inl (t, e ∙ pick_true _ _ t))
    (λ t.
    either (formed_tables b.tables b.counts)
    (λ u. absurd (number_some cause (e ∙ pick_false _ _ t ∙ pick_true _ _ u)))
    (λ u. inr (t, u, e ∙ pick_false _ _ t ∙ pick_false _ _ u)))
