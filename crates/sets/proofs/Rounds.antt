-- Rounds of a monotone step that rises from its start: they end, they are counted right, and they reach the least closed set.
-- Assumes nothing.
use mathlib.Core.Path.{◌≡◌, refl, sym, ap, ◌∙◌, subst}
use mathlib.Core.Logic.{◌⊎◌, inl, inr, ⊎_elim}
use mathlib.Core.Bool.{true, false}
use Prim.Native.Nat.{ℕ, zero, suc, ◌≤◌, ◌<◌, ◌+◌}
use native.Mathlib.Nat.{not-suc-le-zero, le_of_suc-le-suc}
use native.Mathlib.Omega.{arith}
use lib.Dec.{leb}
use borrow.Author.Tests.{leb-true, leb-false}
use Rattle.sets.specs.Set.{Set, Within, Same, count, same, union}
use Rattle.sets.specs.Steps.{Monotone, Closed, after, rounds_in, rounds, reached, Least, First}
use Rattle.sets.proofs.Logic.{either, clash, iff, or_right}
use Rattle.sets.proofs.Tests.{same_at, same_make, both_within, same_within, same_sym}
use Rattle.sets.proofs.Counting.{count_le, count_mono, count_full, count_union}

-- the first round may be counted at either end
pub after_shift : (t : ℕ) (F : Set → Set) (f : Set) → after t F (F f) ≡ after (suc t) F f
unfolding after
after_shift zero F f = refl
after_shift (suc t) F f = ap F (after_shift t F f)

-- one turn of the count
rounds_stop : (k n : ℕ) (F : Set → Set) (f : Set) → same n (F f) f ≡ true → rounds_in (suc k) n F f ≡ 1
unfolding rounds_in
rounds_stop k n F f e = rw (rounds_in, e)

rounds_on : (k n : ℕ) (F : Set → Set) (f : Set) → same n (F f) f ≡ false → rounds_in (suc k) n F f ≡ suc (rounds_in k n F (F f))
unfolding rounds_in
rounds_on k n F f e = rw (rounds_in, e)

module _ (n : ℕ) (F : Set → Set) where
  -- the round after t changes nothing
  abbrev Still : ℕ → Set → Type 0
  Still t f = Same n (F (after t F f)) (after t F f)

  still_shift : (t : ℕ) (f : Set) → Still (suc t) f → Still t (F f)
  still_shift t f s = subst (λ (v : Set). Same n (F v) v) (sym (after_shift t F f)) s

  still_back : (t : ℕ) (f : Set) → Still t (F f) → Still (suc t) f
  still_back t f s = subst (λ (v : Set). Same n (F v) v) (after_shift t F f) s

  -- a round that changes nothing is counted, and it is the last
  pub bound_in : (k : ℕ) (f : Set) (j : ℕ) → Still j f → rounds_in k n F f ≤ suc j
  unfolding rounds_in
  bound_in zero f j s = omega arith
  bound_in (suc k) f zero s =
      either (same n (F f) f) (λ e. omega (arith, rounds_stop k n F f e)) (λ e. clash (same_make n (F f) f (unfold after in s)) e)
  bound_in (suc k) f (suc j) s =
      either (same n (F f) f) (λ e. omega (arith, rounds_stop k n F f e))
      (λ e. let ih : rounds_in k n F (F f) ≤ suc j = bound_in k (F f) j (still_shift j f s) in omega (arith, rounds_on k n F f e))

  -- none before the first round, or one more before a later start's first
  first_zero : (f : Set) → same n (F f) f ≡ true → First n F f 0
  first_zero f e = record { still = unfold after in same_at n (F f) f e; before = λ t m. absurd (not-suc-le-zero m) }

  early : (f : Set) (q : ℕ) → First n F (F f) q → same n (F f) f ≡ false → (t : ℕ) → t < suc q → Still t f → ⊥
  early f q r e zero m u = clash (same_make n (F f) f (unfold after in u)) e
  early f q r e (suc t) m u = r.before t (le_of_suc-le-suc m) (still_shift t f u)

  first_suc : (f : Set) (q : ℕ) → same n (F f) f ≡ false → First n F (F f) q → First n F f (suc q)
  first_suc f q e r = record { still = still_back q f r.still; before = early f q r e }

  -- where some round below the fuel changes nothing, the count ends at the first such
  pub first_in : (k : ℕ) (f : Set) (j : ℕ) → j < k → Still j f → (q : ℕ) × (rounds_in k n F f ≡ suc q) × First n F f q
  first_in zero f j l s = absurd (not-suc-le-zero l)
  first_in (suc k) f zero l s =
      let e : same n (F f) f ≡ true = same_make n (F f) f (unfold after in s) in
      (0, rounds_stop k n F f e, first_zero f e)
  first_in (suc k) f (suc j) l s =
      let r = first_in k (F f) j (le_of_suc-le-suc l) (still_shift j f s) in
      either (same n (F f) f) (λ e. (0, rounds_stop k n F f e, first_zero f e))
      (λ e. (suc r.0, rounds_on k n F f e ∙ ap suc r.1, first_suc f r.0 e r.2))

-- A monotone step that rises from its start
module _ (n : ℕ) (F : Set → Set) (f : Set) (mono : Monotone n F) (rises : Within n f (F f)) where
  -- the rounds rise
  pub after_rises : (t : ℕ) → Within n (after t F f) (after (suc t) F f)
  unfolding after
  after_rises zero = rises
  after_rises (suc t) = mono (after t F f) (after (suc t) F f) (after_rises t)

  pub after_start : (t : ℕ) → Within n f (after t F f)
  unfolding after
  after_start zero i l p = p
  after_start (suc t) i l p = after_rises t i l (after_start t i l p)

  -- and stay within every closed set that has the start
  pub after_least : (g : Set) → Within n f g → Closed n F g → (t : ℕ) → Within n (after t F f) g
  unfolding after
  after_least g s c zero i l p = s i l p
  after_least g s c (suc t) i l p = c i l (mono (after t F f) g (after_least g s c t) i l p)

  -- a round that changes something adds a member
  adds : (k : ℕ) → Still n F k f ⊎ (count n (after k F f) < count n (after (suc k) F f))
  unfolding after
  adds k =
      let v : Set = after k F f in
      either (leb (count n (F v)) (count n v))
      (λ e. inl (both_within n (F v) v (count_full n v (F v) (after_rises k) (leb-true (count n (F v)) (count n v) e)) (after_rises k)))
      (λ e. inr (leb-false (count n (F v)) (count n v) e))

  -- either some round up to k changed nothing, or each added a member
  grow : (k : ℕ) → ((j : ℕ) × (j ≤ k) × Still n F j f) ⊎ (count n f + suc k ≤ count n (after (suc k) F f))
  grow zero =
      let first : count n f ≤ count n (after 0 F f) = count_mono n f (after 0 F f) (after_start 0) in
      ⊎_elim (λ s. inl (0, omega arith, s)) (λ more. inr (omega arith)) (adds 0)
  grow (suc k) =
      ⊎_elim (λ r. let l : r.0 ≤ k = r.1 in inl (r.0, omega arith, r.2))
      (λ m. ⊎_elim (λ s. inl (suc k, omega arith, s)) (λ more. inr (omega arith)) (adds (suc k))) (grow k)

  -- some round stands still after no more rounds than atoms that can join
  pub stands : (J : Set) → ((t : ℕ) → Within n (after t F f) (union f J)) → (j : ℕ) × (j ≤ count n J) × Still n F j f
  stands J joins =
      let k : ℕ = count n J in
      let v : Set = after (suc k) F f in
      let a : count n v ≤ count n (union f J) = count_mono n v (union f J) (joins (suc k)) in
      let b : count n (union f J) ≤ count n f + count n J = count_union n f J in
      ⊎_elim (λ r. r) (λ more. absurd (omega arith)) (grow k)

  stands_n : (j : ℕ) × (j < suc n) × Still n F j f
  stands_n =
      let r = stands (λ i. true) (λ t i l p. or_right (f i) refl) in
      let a : r.0 ≤ count n (λ i. true) = r.1 in
      let b : count n (λ i. true) ≤ n = count_le n (λ i. true) in
      (r.0, omega arith, r.2)

  -- the rounds are the first that changes nothing, and that one is counted
  pub rounds_first : (q : ℕ) × (rounds n F f ≡ suc q) × First n F f q
  unfolding rounds
  rounds_first = let r = stands_n in first_in n F (suc n) f r.0 r.1 r.2

  -- once a set on the way is closed, one round more is all
  pub rounds_closed : (j : ℕ) → Closed n F (after j F f) → rounds n F f ≤ suc j
  unfolding rounds
  rounds_closed j c =
      bound_in n F (suc n) f j (both_within n (F (after j F f)) (after j F f) c (unfold after in after_rises j))

  -- at most one round more than atoms that can join
  pub rounds_join : (J : Set) → ((t : ℕ) → Within n (after t F f) (union f J)) → rounds n F f ≤ suc (count n J)
  rounds_join J joins =
      let r = stands J joins in
      let a : r.0 ≤ count n J = r.1 in
      let b : rounds n F f ≤ suc r.0 = rounds_closed r.0 (same_within n (F (after r.0 F f)) (after r.0 F f) r.2) in
      omega arith

  -- what the rounds reach is left by the step
  pub reached_still : Same n (F (reached n F f)) (reached n F f)
  unfolding reached after
  reached_still =
      let r = rounds_first in
      let v : Set = after r.0 F f in
      let s : Same n (F v) v = r.2.still in
      subst (λ (m : ℕ). Same n (F (after m F f)) (after m F f)) (sym r.1)
      (both_within n (F (F v)) (F v) (mono (F v) v (same_within n (F v) v s)) (mono v (F v) (same_within n v (F v) (same_sym n (F v) v s))))

  -- and is the least closed set that has the start
  pub reached_least : Least n F f (reached n F f)
  unfolding reached
  reached_least = record {
    contains = after_start (rounds n F f);
    closed = same_within n (F (reached n F f)) (reached n F f) reached_still;
    least = λ k s c. after_least k s c (rounds n F f);
  }

-- Rounds see only what lies below n: steps that agree there take the same rounds and reach the same set
module _
    (n : ℕ)
    (F G : Set → Set)
    (agree : (v w : Set) → Same n v w → Same n (F v) (G w))
  where
    pub after_agree : (t : ℕ) (f g : Set) → Same n f g → Same n (after t F f) (after t G g)
    unfolding after
    after_agree zero f g s i l = s i l
    after_agree (suc t) f g s i l = agree (after t F f) (after t G g) (after_agree t f g s) i l

    same_agree : (f g : Set) → Same n f g → same n (F f) f ≡ same n (G g) g
    same_agree f g s =
        let u : Same n (F f) (G g) = agree f g s in
        iff (same n (F f) f) (same n (G g) g)
        (λ e. same_make n (G g) g (λ i l. sym (u i l) ∙ same_at n (F f) f e i l ∙ s i l))
        (λ e. same_make n (F f) f (λ i l. u i l ∙ same_at n (G g) g e i l ∙ sym (s i l)))

    pub rounds_in_agree : (k : ℕ) (f g : Set) → Same n f g → rounds_in k n F f ≡ rounds_in k n G g
    rounds_in_agree zero f g s = unfold rounds_in in refl
    rounds_in_agree (suc k) f g s =
        either (same n (F f) f)
        (λ e. rounds_stop k n F f e ∙ sym (rounds_stop k n G g (sym (same_agree f g s) ∙ e)))
        (λ e. rounds_on k n F f e ∙ ap suc (rounds_in_agree k (F f) (G g) (agree f g s)) ∙ sym (rounds_on k n G g (sym (same_agree f g s) ∙ e)))

    pub rounds_agree : (f g : Set) → Same n f g → rounds n F f ≡ rounds n G g
    unfolding rounds
    rounds_agree f g s = rounds_in_agree (suc n) f g s

    pub reached_agree : (f g : Set) → Same n f g → Same n (reached n F f) (reached n G g)
    unfolding reached
    reached_agree f g s i l =
        after_agree (rounds n F f) f g s i l ∙ ap (λ (t : ℕ). after t G g i) (rounds_agree f g s)
