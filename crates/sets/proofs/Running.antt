-- The loop of rounds of a monotone step that rises from its start: its end, its count and its bound.
-- Assumes nothing.
use mathlib.Core.Path.{◌≡◌, refl, sym, ap, ◌∙◌}
use mathlib.Core.Bool.{true, false}
use Prim.Native.Nat.{ℕ, suc, ◌≤◌, ◌<◌, ◌+◌}
use native.Mathlib.Nat.{not-suc-le-zero}
use native.Mathlib.Omega.{arith}
use lib.Dec.{ltb}
use borrow.Author.Tests.{ltb-true, ltb-false}
use Rattle.sets.specs.Set.{Set, Within, Same, count, same}
use Rattle.sets.specs.Steps.{Monotone, after, rounds, reached}
use Rattle.sets.proofs.Logic.{either, clash, or_right}
use Rattle.sets.proofs.Tests.{below_suc, same_at, same_make, both_within, same_within, same_sym}
use Rattle.sets.proofs.Counting.{count_le}
use Rattle.sets.proofs.Rounds.{rounds_first, rounds_join}

-- v is the set, w the next one, t the rounds with the one that makes w; each round before that one changed something
pub record Running (n : ℕ) (F : Set → Set) (f v w : Set) (t : ℕ) : Type 0 where
  pub before : ℕ
  pub counted : t ≡ suc before
  pub now : Same n v (after before F f)
  pub next : Same n w (F (after before F f))
  pub moved : (r : ℕ) → r < before → Same n (F (after r F f)) (after r F f) → ⊥

-- a monotone step sees only what lies below n
pub step_sees : (n : ℕ) (F : Set → Set) → Monotone n F → (v w : Set) → Same n v w → Same n (F v) (F w)
step_sees n F mono v w e =
    both_within n (F v) (F w) (mono v w (same_within n v w e)) (mono w v (same_within n w v (same_sym n v w e)))

module _ (n : ℕ) (F : Set → Set) (f : Set) (mono : Monotone n F) where
  -- the first round, from the start
  pub run_begin : (v w : Set) → Same n v f → Same n w (F v) → Running n F f v w 1
  unfolding after
  run_begin v w e d = record {
    before = 0;
    counted = refl;
    now = e;
    next = λ i l. d i l ∙ step_sees n F mono v f e i l;
    moved = λ r l. absurd (not-suc-le-zero l);
  }

  -- a round that changed something is followed by another
  pub run_on : (v w x : Set) (t : ℕ) → Running n F f v w t → same n v w ≡ false → Same n x (F w) → Running n F f w x (t + 1)
  unfolding after
  run_on v w x t r e d =
      let q : ℕ = r.before in
      record {
        before = suc q;
        counted = omega (arith, r.counted);
        now = r.next;
        next = λ i l. d i l ∙ step_sees n F mono w (F (after q F f)) r.next i l;
        moved =
            below_suc (λ k. Same n (F (after k F f)) (after k F f) → ⊥) q r.moved
            (λ still. clash (same_make n v w (λ i l. r.now i l ∙ sym (still i l) ∙ sym (r.next i l))) e);
      }

  module _ (rises : Within n f (F f)) where
    -- the rounds are at most one more than the atoms
    pub rounds_few : rounds n F f ≤ n + 1
    rounds_few =
        let all : Set = λ i. true in
        let a : rounds n F f ≤ suc (count n all) = rounds_join n F f mono rises all (λ t i l p. or_right (f i) refl) in
        let b : count n all ≤ n = count_le n all in
        omega arith

    -- the loop's count is at most that of the rounds
    pub run_within : (v w : Set) (t : ℕ) → Running n F f v w t → t ≤ rounds n F f
    run_within v w t r =
        let s = rounds_first n F f mono rises in
        let q : ℕ = s.0 in
        let e : rounds n F f ≡ suc q = s.1 in
        let c : t ≡ suc r.before = r.counted in
        either (ltb q r.before) (λ l. absurd (r.moved q (ltb-true q r.before l) s.2.still))
        (λ l. let b : r.before ≤ q = ltb-false q r.before l in omega arith)

    -- so it never passes the atoms by more than one
    pub run_bound : (v w : Set) (t : ℕ) → Running n F f v w t → t ≤ n + 1
    run_bound v w t r =
        let a : t ≤ rounds n F f = run_within v w t r in
        let b : rounds n F f ≤ n + 1 = rounds_few in
        omega arith

    module _ (v w : Set) (t : ℕ) (r : Running n F f v w t) (e : same n v w ≡ true) where
      abbrev u : Set
      u = after r.before F f

      still : Same n (F u) u
      still i l = sym (r.next i l) ∙ sym (same_at n v w e i l) ∙ r.now i l

      -- the round that changes nothing is the last, and it is counted
      pub run_count : t ≡ rounds n F f
      run_count =
          let s = rounds_first n F f mono rises in
          let q : ℕ = s.0 in
          let a : rounds n F f ≡ suc q = s.1 in
          let c : t ≡ suc r.before = r.counted in
          let b : t ≤ rounds n F f = run_within v w t r in
          either (ltb r.before q) (λ l. absurd (s.2.before r.before (ltb-true r.before q l) still))
          (λ l. let d : q ≤ r.before = ltb-false r.before q l in omega arith)

      -- and its set is the one that the rounds reach
      pub run_held : Same n v (reached n F f)
      unfolding reached after
      run_held i l =
          let a : suc r.before ≡ rounds n F f = sym r.counted ∙ run_count in
          r.now i l ∙ sym (still i l) ∙ ap (λ (k : ℕ). after k F f i) a
