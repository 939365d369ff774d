-- Each rule has one home among the atoms: homes are one to one, and none is an "any" head.
-- Assumes nothing.
use mathlib.Core.Path.{◌≡◌, refl, sym, ap, ◌∙◌, subst}
use mathlib.Core.Bool.{Bool, true, false, ◌&&◌}
use Prim.Native.Nat.{ℕ, ◌≤◌, ◌<◌}
use native.Mathlib.Omega.{arith}
use lib.Dec.{eqb, leb, ltb}
use borrow.Author.Tests.{eqb-true, eq-eqb, le-leb, ltb-true, ltb-false}
use Rattle.sets.specs.Set.{count}
use Rattle.sets.proofs.Logic.{either, clash, not-true, and_left, and_right, and_make, pick_true, pick_false}
use Rattle.sets.proofs.Tests.{exists_make, exists_find}
use Rattle.sets.proofs.Counting.{rank_less, rank_one, count_two}
use Rattle.program.specs.Program.{Program, WellFormed, size, head_at}
use Rattle.program.specs.System.{any_head}
use Rattle.program.specs.Standard.{ways, several, helper, home, any_row, standard}

module _ (p : Program) where
  abbrev n : ℕ
  n = p.names

  abbrev r : ℕ
  r = size p

  abbrev atoms : ℕ
  atoms = helper p r

  -- the two kinds of home
  pub home_several : (j : ℕ) → several p j ≡ true → home p j ≡ helper p j
  unfolding home
  home_several j e = pick_true (helper p j) (head_at p j) e

  pub home_single : (j : ℕ) → several p j ≡ false → home p j ≡ head_at p j
  unfolding home
  home_single j e = pick_false (helper p j) (head_at p j) e

  pub several_ways : (j a : ℕ) → head_at p j ≡ a → several p j ≡ leb 2 (ways p a)
  unfolding several
  several_ways j a e = ap (λ (x : ℕ). leb 2 (ways p x)) e

  -- rules for one name are several together
  pub several_alike : (j k : ℕ) → head_at p j ≡ head_at p k → several p j ≡ several p k
  several_alike j k e = several_ways j (head_at p k) e ∙ sym (several_ways k (head_at p k) refl)

  -- two rules for one name are several
  pub two_several : (j k : ℕ) → j < k → k < r → head_at p j ≡ head_at p k → several p j ≡ true
  unfolding several ways
  two_several j k l b e =
      le-leb 2 (ways p (head_at p j))
      (count_two r j k (λ i. eqb (head_at p i) (head_at p j)) l b (eq-eqb (head_at p j) (head_at p j) refl) (eq-eqb (head_at p k) (head_at p j) (sym e)))

  pub single_alone : (j k : ℕ) → j < r → k < r → several p j ≡ false → head_at p j ≡ head_at p k → j ≡ k
  single_alone j k a b s e =
      either (ltb j k) (λ t. clash (two_several j k (ltb-true j k t) b e) s)
      (λ t. either (ltb k j) (λ u. clash (two_several k j (ltb-true k j u) a (sym e)) (sym (several_alike j k e) ∙ s))
      (λ u. let x : k ≤ j = ltb-false j k t in let y : j ≤ k = ltb-false k j u in omega arith))

  -- helpers are past the names, below the atoms, and one to one
  pub helper_past : (j : ℕ) → n ≤ helper p j
  unfolding helper
  helper_past j = omega arith

  pub helper_below : (j : ℕ) → j < r → several p j ≡ true → helper p j < atoms
  unfolding helper
  helper_below j l e = let a : count j (several p) < count r (several p) = rank_less j r (several p) l e in omega arith

  pub helper_one : (j k : ℕ) → several p j ≡ true → several p k ≡ true → helper p j ≡ helper p k → j ≡ k
  unfolding helper
  helper_one j k a b e = rank_one j k (several p) a b (omega arith)

  pub names_below : n ≤ atoms
  names_below = helper_past r

  module _ (formed : WellFormed p) where
    pub home_below : (j : ℕ) → j < r → home p j < atoms
    home_below j l =
        let a : head_at p j < n = formed.heads j l in
        let b : n ≤ atoms = names_below in
        either (several p j) (λ s. subst (λ (i : ℕ). i < atoms) (sym (home_several j s)) (helper_below j l s))
        (λ s. subst (λ (i : ℕ). i < atoms) (sym (home_single j s)) (omega arith))

    -- a helper is no head
    pub helper_no_head : (j k : ℕ) → k < r → helper p j ≡ head_at p k → ⊥
    helper_no_head j k l e =
        let a : head_at p k < n = formed.heads k l in
        let b : n ≤ helper p j = helper_past j in
        omega arith

    -- homes are one to one
    pub home_one : (j k : ℕ) → j < r → k < r → home p j ≡ home p k → j ≡ k
    home_one j k a b e =
        either (several p j)
        (λ s. either (several p k) (λ t. helper_one j k s t (sym (home_several j s) ∙ e ∙ home_several k t))
        (λ t. absurd (helper_no_head j k b (sym (home_several j s) ∙ e ∙ home_single k t))))
        (λ s. either (several p k) (λ t. absurd (helper_no_head k j a (sym (home_several k t) ∙ sym e ∙ home_single j s)))
        (λ t. single_alone j k a b s (sym (home_single j s) ∙ e ∙ home_single k t)))

    -- a home is the head of no several rules
    pub home_not_several : (j k : ℕ) → j < r → k < r → several p k ≡ true → home p j ≡ head_at p k → ⊥
    home_not_several j k a b t e =
        either (several p j) (λ s. helper_no_head j k b (sym (home_several j s) ∙ e))
        (λ s. clash t (sym (several_alike j k (sym (home_single j s) ∙ e)) ∙ s))

  -- what an "any" row holds
  pub any_make : (j : ℕ) → j < r → several p j ≡ true → any_row p (head_at p j) (helper p j) ≡ true
  unfolding any_row
  any_make j l s =
      exists_make r (λ k. several p k && (eqb (head_at p k) (head_at p j) && eqb (helper p k) (helper p j))) j l
      (and_make s (and_make (eq-eqb (head_at p j) (head_at p j) refl) (eq-eqb (helper p j) (helper p j) refl)))

  pub any_find : (i k : ℕ) → any_row p i k ≡ true → (j : ℕ) × (j < r) × (several p j ≡ true) × (head_at p j ≡ i) × (helper p j ≡ k)
  unfolding any_row
  any_find i k e =
      let q = exists_find r (λ j. several p j && (eqb (head_at p j) i && eqb (helper p j) k)) e in
      let j : ℕ = q.0 in
      let a : Bool = eqb (head_at p j) i in
      let b : Bool = eqb (helper p j) k in
      let ab : a && b ≡ true = and_right (several p j) (a && b) q.2 in (
        j,
        q.1,
        and_left (several p j) (a && b) q.2,
        eqb-true (head_at p j) i (and_left a b ab),
        eqb-true (helper p j) k (and_right a b ab),
      )

  -- an "any" head is the head of several rules
  pub head_make : (j : ℕ) → j < r → several p j ≡ true → any_head (standard p) (head_at p j) ≡ true
  unfolding any_head
  head_make j l s = exists_make atoms (any_row p (head_at p j)) (helper p j) (helper_below j l s) (any_make j l s)

  pub head_find : (i : ℕ) → any_head (standard p) i ≡ true → (j : ℕ) × (j < r) × (several p j ≡ true) × (head_at p j ≡ i)
  unfolding any_head
  head_find i e =
      let q = exists_find atoms (any_row p i) e in
      let f = any_find i q.0 q.2 in
      (f.0, f.1, f.2, f.3)

  pub home_no_head : WellFormed p → (j : ℕ) → j < r → any_head (standard p) (home p j) ≡ false
  home_no_head formed j l =
      not-true (any_head (standard p) (home p j))
      (λ t. let q = head_find (home p j) t in home_not_several formed j q.0 l q.1 q.2 (sym q.3))
