-- Bounds on the rounds of a regular system, for N steps over rows a round.
-- Assumes nothing.
use mathlib.Core.Path.{◌≡◌, refl, sym, ap, ◌∙◌, subst}
use mathlib.Core.Logic.{◌⊎◌, inl, inr, ⊎_elim}
use mathlib.Core.Bool.{true, false, ◌&&◌}
use Prim.Native.Nat.{ℕ, zero, suc, ◌≤◌, ◌<◌, ◌+◌, ◌*◌, ◌-◌}
use native.Mathlib.Omega.{arith}
use lib.Dec.{leb}
use borrow.Author.Tests.{leb-true, leb-false}
use Rattle.sets.specs.Set.{Set, Within, Same, count, union}
use Rattle.sets.specs.Steps.{Monotone, Closed, after, rounds}
use Rattle.sets.proofs.Logic.{either, iff, and_left, and_right, and_make, or_left, or_right}
use Rattle.sets.proofs.Tests.{same_within, same_sym, both_within}
use Rattle.sets.proofs.Counting.{count_mono, count_full, count_union}
use Rattle.sets.proofs.Rounds.{after_rises, after_least, stands, rounds_closed, rounds_join}
use Rattle.program.specs.System.{System, Regular, any_head, all_step, c, h}
use Rattle.program.proofs.Folds.{round_by, after_add}
use Rattle.program.proofs.Alike.{all_mono, round_other, round_mono, kept_after_lem, kept_head, start_round, support}

-- once a step leaves a set, it leaves every later one
still_on : (n : ℕ) (F : Set → Set) → Monotone n F → (g : Set) → Same n (F g) g → (d : ℕ) → Same n (F (after d F g)) (after d F g)
unfolding after
still_on n F mono g s zero i l = s i l
still_on n F mono g s (suc d) i l =
    let u : Set = after d F g in
    let t : Same n (F u) u = still_on n F mono g s d in
    both_within n (F (F u)) (F u) (mono (F u) u (same_within n (F u) u t)) (mono u (F u) (same_within n u (F u) (same_sym n (F u) u t))) i l

-- a set that is the same as a closed one is closed
closed_same : (n : ℕ) (F : Set → Set) → Monotone n F → (f g : Set) → Same n f g → Closed n F g → Closed n F f
closed_same n F mono f g s c i l e = s i l ∙ c i l (mono f g (same_within n f g s) i l e)

module _ (s : System) (reg : Regular s) where
  abbrev m : ℕ
  m = s.atoms

  abbrev A : Set → Set
  A = all_step m s.all

  abbrev O : Set
  O = any_head s

  module _ (N : ℕ) where
    -- N + 1 steps over rows a round, and the set after t rounds
    abbrev F : Set → Set
    F = round_by s (suc N)

    abbrev v : ℕ → Set
    v t = after t F s.start

    rises : (t : ℕ) → Within m (v t) (v (suc t))
    rises = after_rises m F s.start (round_mono s (suc N)) (start_round s reg (suc N))

    -- only counted atoms and "any" heads ever join
    stays : (t i : ℕ) → i < m → s.counted i ≡ false → O i ≡ false → v t i ≡ s.start i
    unfolding after
    stays zero i l d o = refl
    stays (suc t) i l d o = round_other s (suc N) (v t) i o ∙ kept_after_lem s reg (suc N) (v t) i l d ∙ stays t i l d o

    joins : (t : ℕ) → Within m (v t) (union s.start (union s.counted O))
    joins t i l e =
        either (s.counted i) (λ d. or_right (s.start i) (or_left (O i) d))
        (λ d. either (O i) (λ o. or_right (s.start i) (or_right (s.counted i) o)) (λ o. or_left (union s.counted O i) (sym (stays t i l d o) ∙ e)))

    pub rounds_few : rounds m F s.start ≤ c s + h s + 1
    unfolding c h
    rounds_few =
        let J : Set = union s.counted O in
        let a : count m J ≤ count m s.counted + count m O = count_union m s.counted O in
        let r : rounds m F s.start ≤ suc (count m J) =
        rounds_join m F s.start (round_mono s (suc N)) (start_round s reg (suc N)) J joins
        in
        omega arith

    -- from here on N + 1 is at least c
    module _ (enough : c s ≤ suc N) where
      -- N + 1 steps over rows from a supported set reach one that the step over rows leaves
      settled : (u : Set) → Within m u (A u) → Closed m A (after (suc N) A u)
      unfolding c
      settled u up =
          let r =
          stands m A u (all_mono m s.all) up s.counted
          (λ t i l e. either (s.counted i) (λ d. or_right (u i) d) (λ d. or_left (s.counted i) (sym (kept_after_lem s reg t u i l d) ∙ e)))
          in
          let j : ℕ = r.0 in
          let few : j ≤ count m s.counted = r.1 in
          let rest : (suc N - j) + j ≡ suc N = omega arith in
          let all : after (suc N - j) A (after j A u) ≡ after (suc N) A u =
          sym (after_add (suc N - j) j A u) ∙ ap (λ (t : ℕ). after t A u) rest
          in
          let here : Same m (A (after j A u)) (after j A u) = r.2 in
          let last : Set = after (suc N - j) A (after j A u) in
          subst (λ (w : Set). Closed m A w) all
          (same_within m (A last) last (still_on m A (all_mono m s.all) (after j A u) here (suc N - j)))

      -- the "any" heads among the members
      abbrev H : Set → Set
      H u i = u i && O i

      abbrev heads : ℕ → ℕ
      heads t = count m (H (v t))

      heads_le : (t : ℕ) → heads t ≤ h s
      unfolding h
      heads_le t = count_mono m (H (v t)) O (λ i l e. and_right (v t i) (O i) e)

      -- after t rounds: one before changed nothing; or each second one added an "any" head; or so but one, and the step over rows adds nothing
      abbrev Phase : ℕ → Type 0
      Phase t =
          ((j : ℕ) × (j < t) × Closed m F (v j)) ⊎ ((t ≤ 2 * heads t) ⊎ ((t ≤ 2 * heads t + 1) × Closed m A (v t)))

      -- either an "any" head joins, or those of the next set are those of this one
      heads_more : (t : ℕ) → (heads t < heads (suc t)) ⊎ ((i : ℕ) → i < m → O i ≡ true → v (suc t) i ≡ true → v t i ≡ true)
      heads_more t =
          let kept : Within m (H (v t)) (H (v (suc t))) =
          λ i l e. and_make (rises t i l (and_left (v t i) (O i) e)) (and_right (v t i) (O i) e)
          in
          either (leb (heads (suc t)) (heads t))
          (λ e. inr (λ i l o q.
          and_left (v t i) (O i)
          (count_full m (H (v t)) (H (v (suc t))) kept (leb-true (heads (suc t)) (heads t) e) i l (and_make q o))))
          (λ e. inl (leb-false (heads (suc t)) (heads t) e))

      -- no "any" head joins: the next set is what the steps over rows give, and they leave it
      resting : (t : ℕ) → ((i : ℕ) → i < m → O i ≡ true → v (suc t) i ≡ true → v t i ≡ true) → Closed m A (v (suc t))
      resting t none =
          let u : Set = after (suc N) A (v t) in
          closed_same m A (all_mono m s.all) (v (suc t)) u
          (λ i l.
          either (O i)
          (λ o. iff (v (suc t) i) (v t i) (none i l o) (rises t i l) ∙ sym (kept_head s reg (suc N) (v t) i l o))
          (λ o. unfold after in round_other s (suc N) (v t) i o))
          (settled (v t) (support s reg N t))

      -- and from a set that they leave, nothing joins at all
      over : (t : ℕ) → Closed m A (v t) → ((i : ℕ) → i < m → O i ≡ true → v (suc t) i ≡ true → v t i ≡ true) → Closed m F (v t)
      over t closed none i l e =
          either (O i) (λ o. none i l o (unfold after in e))
          (λ o.
          after_least m A (v t) (all_mono m s.all) (support s reg N t) (v t) (λ k b q. q) closed (suc N) i l
          (sym (round_other s (suc N) (v t) i o) ∙ e))

      phase : (t : ℕ) → Phase t
      phase zero = inr (inl (omega arith))
      phase (suc t) =
          let more : heads t ≤ heads (suc t) =
          count_mono m (H (v t)) (H (v (suc t)))
          (λ i l e. and_make (rises t i l (and_left (v t i) (O i) e)) (and_right (v t i) (O i) e))
          in
          ⊎_elim (λ r. let b : r.0 < t = r.1 in inl (r.0, omega arith, r.2))
          (⊎_elim
          (λ even. ⊎_elim (λ up. inr (inl (omega arith))) (λ none. inr (inr (omega arith, resting t none))) (heads_more t))
          (λ odd.
          let o : t ≤ 2 * heads t + 1 = odd.0 in
          ⊎_elim (λ up. inr (inl (omega arith))) (λ none. inl (t, omega arith, over t odd.1 none)) (heads_more t)))
          (phase t)

      pub rounds_two : rounds m F s.start ≤ 2 * h s + 2
      rounds_two =
          let last : ℕ = 2 * h s + 2 in
          let few : heads last ≤ h s = heads_le last in
          ⊎_elim
          (λ r.
          let b : r.0 < last = r.1 in
          let e : rounds m F s.start ≤ suc r.0 =
          rounds_closed m F s.start (round_mono s (suc N)) (start_round s reg (suc N)) r.0 r.2
          in
          omega arith)
          (⊎_elim (λ even. absurd (omega arith)) (λ odd. let o : last ≤ 2 * heads last + 1 = odd.0 in absurd (omega arith))) (phase last)
