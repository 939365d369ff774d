-- The rules' numbers, met by the turns of a `try_fold` over a range.
-- Assumes nothing.
use mathlib.Core.Path.{◌≡◌, refl, sym, ap, ap₂, subst, ◌∙◌}
use mathlib.Core.List.{List, [], ◌∷◌}
use Prim.Native.Nat.{ℕ, ◌+◌, ◌-◌, ◌≤◌, ◌<◌}
use native.Mathlib.Omega.{arith}
use lib.Dec.{eqb}
use denote.Param.Members.{Mut}
use Rattle.std.proofs.Common.{Option, Some, None}
use Rattle.std.specs.Option.{IfSome, option_eq}
use Rattle.std.specs.List.{FoldsTo}
use Rattle.std.specs.Fn.{Called, Takes}
use Rattle.std.specs.Iterator.{Yields, TryFoldsItems, CallableAtEachTurn}
use Rattle.std.specs.declared.ops.Range.{Range}
use Rattle.std.specs.ControlFlow.{continue_value}
use Rattle.std.specs.declared.ops.ControlFlow.{ControlFlow}
use Rattle.std.proofs.iter.Yields.{nat_range_steps}
use Rattle.std.proofs.lemmas.Fn.{serves_by}
use Rattle.sets.proofs.Logic.{either, pick_true, pick_false}
use Rattle.tables.specs.Areas.{RuleTables, rule_at, rules_from, rules_in}
use Rattle.tables.specs.Writing.{orderly, numbers_of, numbers_in}
use Rattle.tablecheck.specs.Order.{head_end, met_after, ordered}
use Rattle.tablecheck.proofs.Meeting.{after_none, after_bad, after_good, numbers_on, numbers_end, rules_start}

-- a range's end stays
end_stays : (xs : List ℕ) (s t : Range ℕ) → Yields nat_range_steps s xs t → t.end ≡ s.end
end_stays [] s t y = sym (ap (λ (r : Range ℕ). r.end) y)
end_stays (x ∷ xs) s t y = end_stays xs y.0 t y.2 ∙ y.1.0

-- what is met of the rules left, after `met` numbers
abbrev left_after : RuleTables → ℕ → Range ℕ → Option ℕ
left_after tables met s = met_after met (numbers_in (rules_from tables (s.end - s.start) s.start))

-- the number that all in order come to is compared
pub ordered_is : (n : ℕ) (xs : List ℕ) → option_eq eqb (met_after 0 xs) (Some n) ≡ ordered n xs
unfolding met_after ordered
ordered_is n xs =
    either (orderly 0 xs)
    (λ t. ap (λ (o : Option ℕ). option_eq eqb o (Some n)) (pick_true _ _ t) ∙ rw t refl)
    (λ t. ap (λ (o : Option ℕ). option_eq eqb o (Some n)) (pick_false _ _ t) ∙ rw t refl)

-- whether a call of `?` goes on, as an Option has it
abbrev goes : (E : Type 0) → Option ℕ → ControlFlow E ℕ → Type 0
goes E v c = v ≡ continue_value c

module _ {F : Type 0} (g : Mut F (ℕ × (ℕ × Unit {0})) (Option ℕ)) (f : F) (tables : RuleTables)
    (turn : (met j : ℕ) (v : Option ℕ) (q : F) → Called g f (met, (j, tt)) v q
    → (q ≡ f) × (v ≡ met_after met (numbers_of (rule_at tables j))) × IfSome v (λ count. count ≤ head_end)) where
  -- one that goes on
  abbrev Turn : F × ℕ → ℕ → F × ℕ → Type 0
  Turn p x q = (v : Option ℕ) × Called g p.0 (p.1, (x, tt)) v q.0 × (v ≡ Some q.1)

  -- it may be called at each
  pub callable : (m : ℕ) → ((met j : ℕ) → met ≤ head_end → j < m → Takes g f (met, (j, tt)))
      → CallableAtEachTurn {P = F × ℕ} nat_range_steps Turn (λ p x. Takes g p.0 (p.1, (x, tt))) (record { start = 0; end = m }) (f, 0)
  callable m takes =
      serves_by {P = F × ℕ} Turn (λ xs q. (q.0 ≡ f) × (q.1 ≤ head_end))
      (λ xs q x w i r.
      let u = turn q.1 x r.0 w.0 (subst (λ (h : F). Called g h (q.1, (x, tt)) r.0 w.0) i.0 r.1) in
      (u.0, subst (λ (o : Option ℕ). IfSome o (λ count. count ≤ head_end)) r.2 u.2))
      nat_range_steps _ _ _ (refl, omega arith)
      (λ xs t q x u y e i.
      subst (λ (h : F). Takes g h (q.1, (x, tt))) (sym i.0)
      (takes q.1 x i.1 (omega (arith, end_stays xs (record { start = 0; end = m }) t y, e.1.0, e.1.1))))

  -- the turns
  walked : (xs : List ℕ) (s t : Range ℕ) (met a : ℕ) (q : F) → Yields nat_range_steps s xs t
      → FoldsTo {P = F × ℕ} Turn (f, met) xs (q, a) → (q ≡ f) × (left_after tables met s ≡ left_after tables a t)
  walked [] s t met a q y c =
      (sym (ap (λ (p : F × ℕ). p.0) c), ap₂ (λ (p : F × ℕ) (r : Range ℕ). left_after tables p.1 r) c y)
  walked (x ∷ xs) s t met a q y c =
      let u = turn met x c.1.0 c.0.0 c.1.1 in
      let good : Some c.0.1 ≡ met_after met (numbers_of (rule_at tables s.start)) =
      sym c.1.2 ∙ u.1 ∙ ap (λ (j : ℕ). met_after met (numbers_of (rule_at tables j))) y.1.1.1 in
      let more = walked xs y.0 t c.0.1 a q y.2 (subst (λ (h : F). FoldsTo {P = F × ℕ} Turn (h, c.0.1) xs (q, a)) u.0 c.2) in
      let next : s.start + 1 ≡ y.0.start = omega (arith, y.1.1.2) in
      let size : s.end - (s.start + 1) ≡ y.0.end - y.0.start = omega (arith, y.1.0, next) in (
        more.0,
        ap (met_after met) (numbers_on tables s.end s.start (omega (arith, y.1.1.0)))
            ∙ after_good met c.0.1 (numbers_of (rule_at tables s.start)) (numbers_in (rules_from tables (s.end - (s.start + 1)) (s.start + 1))) good
            ∙ ap₂ (λ (k i : ℕ). met_after c.0.1 (numbers_in (rules_from tables k i))) size next
            ∙ more.1,
      )

  -- what they come to
  pub answered : (E : Type 0) (m : ℕ) (u : Range ℕ) (r : Option ℕ)
      → TryFoldsItems nat_range_steps g (goes E) (λ _ r. r ≡ None) (record { start = 0; end = m }) f 0 r u
      → r ≡ met_after 0 (numbers_in (rules_in tables m))
  answered E m u r (xs, None, q, a, (t, y, e), c, h) =
      let w = walked xs (record { start = 0; end = m }) t 0 a q y c in
      h ∙ sym (sym (rules_start tables m) ∙ w.1 ∙ ap (met_after a) (numbers_end tables t.end t.start (omega (arith, e.1.0))) ∙ after_none a)
  answered E m u r (xs, Some x, q, a, (t, y, e), c, (v, h, b, k, l, n)) =
      let w = walked xs (record { start = 0; end = m }) t 0 a q y c in
      let z = turn a x v h (subst (λ (i : F). Called g i (a, (x, tt)) v h) w.0 k) in
      let bad : met_after a (numbers_of (rule_at tables t.start)) ≡ None =
      sym (ap (λ (j : ℕ). met_after a (numbers_of (rule_at tables j))) e.1.1) ∙ sym z.1 ∙ l in
      n ∙ sym (
      sym (rules_start tables m) ∙ w.1 ∙ ap (met_after a) (numbers_on tables t.end t.start (omega (arith, e.1.0)))
      ∙ after_bad a (numbers_of (rule_at tables t.start)) (numbers_in (rules_from tables (t.end - (t.start + 1)) (t.start + 1))) bad
      )
