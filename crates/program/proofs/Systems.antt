-- Regular and-or systems after k folds: held atoms alike, no start atom lost, and the two bounds on the rounds.
-- Assumes nothing.
use mathlib.Core.Path.{◌≡◌, sym, ap, ◌∙◌, subst}
use Prim.Native.Nat.{ℕ, suc, ◌≤◌, ◌+◌, ◌*◌, ◌-◌, ◌^◌}
use lib.Pow.{suc_ones}
use Rattle.sets.specs.Set.{Set, Within, Same}
use Rattle.sets.specs.Steps.{Least, rounds, reached, First}
use Rattle.sets.proofs.Rounds.{reached_least, rounds_first}
use Rattle.program.specs.System.{System, Regular, round, rows_after, folded, rounds_of, held_by, c, h}
use Rattle.program.proofs.Folds.{round_by, round_folded}
use Rattle.program.proofs.Alike.{alike, start_round, round_mono}
use Rattle.program.proofs.Bounds.{rounds_few, rounds_two}

module _ (s : System) (reg : Regular s) (k : ℕ) where
  abbrev m : ℕ
  m = s.atoms

  -- k folds are N + 1 steps over rows a round
  abbrev N : ℕ
  N = 2 ^ k - 1

  steps : round_by s (suc N) ≡ round (folded k s)
  steps = ap (round_by s) (suc_ones k) ∙ sym (round_folded s k)

  -- what the rounds reach is the same set for every number of folds
  pub held_alike : Same m (held_by (folded k s)) (held_by s)
  unfolding held_by rows_after
  held_alike =
      let plain : round_by s 1 ≡ round s = sym (round_folded s 0) in
      subst (λ (F : Set → Set). Same m (reached m F s.start) (reached m (round s) s.start)) steps
      (subst (λ (G : Set → Set). Same m (reached m (round_by s (suc N)) s.start) (reached m G s.start)) plain (alike s reg N))

  -- a start atom is never lost
  pub start_kept_lem : Within m s.start (round (folded k s) s.start)
  start_kept_lem = subst (λ (F : Set → Set). Within m s.start (F s.start)) steps (start_round s reg (suc N))

  -- at most c + h + 1 rounds
  pub rounds_within : rounds_of (folded k s) ≤ c s + h s + 1
  unfolding rounds_of
  rounds_within = subst (λ (F : Set → Set). rounds m F s.start ≤ c s + h s + 1) steps (rounds_few s reg N)

  -- at most 2h + 2 rounds wherever 2 to the power k is at least c
  pub rounds_enough : c s ≤ 2 ^ k → rounds_of (folded k s) ≤ 2 * h s + 2
  unfolding rounds_of
  rounds_enough e =
      subst (λ (F : Set → Set). rounds m F s.start ≤ 2 * h s + 2) steps
      (rounds_two s reg N (subst (λ (t : ℕ). c s ≤ t) (sym (suc_ones k)) e))

  -- they are the first that changes nothing, counted, and reach the least set closed under a round
  pub rounds_are_first : (q : ℕ) × (rounds_of (folded k s) ≡ suc q) × First m (round (folded k s)) s.start q
  unfolding rounds_of
  rounds_are_first =
      subst (λ (F : Set → Set). (q : ℕ) × (rounds m F s.start ≡ suc q) × First m F s.start q) steps
      (rounds_first m (round_by s (suc N)) s.start (round_mono s (suc N)) (start_round s reg (suc N)))

  pub held_least : Least m (round (folded k s)) s.start (held_by (folded k s))
  unfolding held_by
  held_least =
      subst (λ (F : Set → Set). Least m F s.start (reached m F s.start)) steps
      (reached_least m (round_by s (suc N)) s.start (round_mono s (suc N)) (start_round s reg (suc N)))
