-- The plain route reaches the least model.
-- Assumes nothing.
use mathlib.Core.Path.{◌≡◌, refl, subst}
use mathlib.Core.Logic.{◌↔◌}
use mathlib.Core.Bool.{Bool, true, ◌&&◌}
use Prim.Native.Nat.{ℕ, ◌≤◌, ◌<◌, ◌+◌}
use lib.Dec.{eqb}
use borrow.Author.Tests.{eqb-true, eq-eqb}
use Rattle.sets.specs.Set.{Set, Within, within, empty_set}
use Rattle.sets.specs.Steps.{Monotone, Closed, Least}
use Rattle.sets.proofs.Logic.{clash, and_left, and_right, and_make}
use Rattle.sets.proofs.Tests.{exists_make, exists_find, within_at, within_make}
use Rattle.sets.proofs.Rounds.{reached_least}
use Rattle.sets.proofs.Running.{rounds_few}
use Rattle.program.specs.Program.{Program, WellFormed, Model, InEveryModel, size, head_at, body_at, consequence, plain_rounds, plain_held}

module _ (p : Program) where
  abbrev n : ℕ
  n = p.names

  -- rule j puts its head among the consequences
  pub follows : (v : Set) (j : ℕ) → j < size p → Within n (body_at p j) v → consequence p v (head_at p j) ≡ true
  unfolding consequence
  follows v j l w =
      exists_make (size p) (λ j'. eqb (head_at p j') (head_at p j) && within n (body_at p j') v) j l
      (and_make (eq-eqb (head_at p j) (head_at p j) refl) (within_make n (body_at p j) v w))

  -- and each consequence has such a rule
  pub rule_of : (v : Set) (a : ℕ) → consequence p v a ≡ true → (j : ℕ) × (j < size p) × (head_at p j ≡ a) × Within n (body_at p j) v
  unfolding consequence
  rule_of v a e =
      let r = exists_find (size p) (λ j. eqb (head_at p j) a && within n (body_at p j) v) e in
      let j : ℕ = r.0 in
      let t : Bool = eqb (head_at p j) a in
      let w : Bool = within n (body_at p j) v in
      (j, r.1, eqb-true (head_at p j) a (and_left t w r.2), within_at n (body_at p j) v (and_right t w r.2))

  pub consequence_mono : Monotone n (consequence p)
  consequence_mono f g h i l e =
      let r = rule_of f i e in
      subst (λ (a : ℕ). consequence p g a ≡ true) r.2 (follows g r.0 r.1 (λ k m q. h k m (r.3 k m q)))

  -- a set is a model where it is closed under immediate consequence
  pub closed_model : WellFormed p → (M : Set) → Closed n (consequence p) M → Model p M
  closed_model s M c j l w = c (head_at p j) (s.heads j l) (follows M j l w)

  pub model_closed : (M : Set) → Model p M → Closed n (consequence p) M
  model_closed M h i l e =
      let r = rule_of M i e in
      subst (λ (a : ℕ). M a ≡ true) r.2 (h r.0 r.1 r.3)

  plain_least : Least n (consequence p) empty_set (plain_held p)
  unfolding plain_held
  plain_least = reached_least n (consequence p) empty_set consequence_mono (λ i l e. clash e refl)

  -- what the plain route reaches is a model
  pub plain_model : WellFormed p → Model p (plain_held p)
  plain_model s = closed_model s (plain_held p) plain_least.closed

  -- and lies in every model
  pub plain_within : (M : Set) → Model p M → Within n (plain_held p) M
  plain_within M h = plain_least.least M (λ i l e. clash e refl) (model_closed M h)

  -- so it holds a name exactly where every model has it
  pub plain_held_lem : WellFormed p → (a : ℕ) → a < n → (plain_held p a ≡ true) ↔ InEveryModel p a
  plain_held_lem s a l = (λ e M h. plain_within M h a l e, λ every. every (plain_held p) (plain_model s))

  -- in at most n + 1 rounds
  pub plain_bound : plain_rounds p ≤ n + 1
  unfolding plain_rounds
  plain_bound = rounds_few n (consequence p) empty_set consequence_mono (λ i l e. clash e refl)
