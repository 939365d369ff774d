-- A regular system holds the same atoms for every number N of steps a round, N at least 1.
-- Assumes nothing.
use mathlib.Core.Path.{◌≡◌, refl, sym, ap, ◌∙◌}
use mathlib.Core.Bool.{true, false}
use Prim.Native.Nat.{ℕ, zero, suc, ◌<◌}
use Rattle.sets.specs.Set.{Set, Within, Same, meets, only}
use Rattle.sets.specs.Steps.{Monotone, Closed, Least, after, rounds, reached}
use Rattle.sets.proofs.Logic.{either, pick_true, pick_false}
use Rattle.sets.proofs.Tests.{within_at, within_make, meets_make, meets_find, within_same, only_within, both_within}
use Rattle.sets.proofs.Rounds.{after_shift, after_rises, after_start, reached_least}
use Rattle.program.specs.System.{System, Regular, any_head, all_step}
use Rattle.program.proofs.Folds.{round_by}

-- the step over rows is monotone, and so are its repetitions
pub all_mono : (m : ℕ) (rows : ℕ → Set) → Monotone m (all_step m rows)
unfolding all_step
all_mono m rows f g h i l e = within_make m (rows i) g (λ k b q. h k b (within_at m (rows i) f e k b q))

pub after_mono : (m : ℕ) (F : Set → Set) → Monotone m F → (t : ℕ) → Monotone m (after t F)
unfolding after
after_mono m F h zero f g w i l e = w i l e
after_mono m F h (suc t) f g w i l e = h (after t F f) (after t F g) (after_mono m F h t f g w) i l e

module _ (s : System) where
  abbrev m : ℕ
  m = s.atoms

  abbrev A : Set → Set
  A = all_step m s.all

  A_mono : Monotone m A
  A_mono = all_mono m s.all

  -- a round at an "any" head, and at another atom
  pub round_head : (N : ℕ) (v : Set) (i : ℕ) → any_head s i ≡ true → round_by s N v i ≡ meets m (s.any i) v
  unfolding round_by
  round_head N v i e = pick_true (meets m (s.any i) v) (after N A v i) e

  pub round_other : (N : ℕ) (v : Set) (i : ℕ) → any_head s i ≡ false → round_by s N v i ≡ after N A v i
  unfolding round_by
  round_other N v i e = pick_false (meets m (s.any i) v) (after N A v i) e

  pub round_mono : (N : ℕ) → Monotone m (round_by s N)
  round_mono N f g h i l e =
      either (any_head s i)
      (λ o.
      let r = meets_find m (s.any i) f (sym (round_head N f i o) ∙ e) in
      round_head N g i o ∙ meets_make m (s.any i) g r.0 r.1 r.2 (h r.0 r.1 r.3))
      (λ o. round_other N g i o ∙ after_mono m A A_mono N f g h i l (sym (round_other N f i o) ∙ e))

  module _ (reg : Regular s) where
    -- an atom that is not counted is kept as it is
    pub kept_once : (v : Set) (i : ℕ) → i < m → s.counted i ≡ false → A v i ≡ v i
    unfolding all_step
    kept_once v i l d =
        within_same m (s.all i) (only i) v v (reg.kept i l d) (λ k b. refl) ∙ only_within m i v l

    pub kept_after_lem : (N : ℕ) (v : Set) (i : ℕ) → i < m → s.counted i ≡ false → after N A v i ≡ v i
    unfolding after
    kept_after_lem zero v i l d = refl
    kept_after_lem (suc N) v i l d = kept_once (after N A v) i l d ∙ kept_after_lem N v i l d

    -- so is an "any" head by the step over rows
    pub kept_head : (N : ℕ) (v : Set) (i : ℕ) → i < m → any_head s i ≡ true → after N A v i ≡ v i
    kept_head N v i l o = kept_after_lem N v i l (reg.heads i l o)

    -- no start atom is lost
    pub start_all : Within m s.start (A s.start)
    start_all i l e = kept_once s.start i l (reg.starts i l e).0 ∙ e

    pub start_round : (N : ℕ) → Within m s.start (round_by s N s.start)
    start_round N i l e =
        round_other N s.start i (reg.starts i l e).1 ∙ kept_after_lem N s.start i l (reg.starts i l e).0 ∙ e

    -- nothing too much: what one step a round leaves, N steps a round leave
    module _ (L : Set) (closed : Closed m (round_by s 1) L) where
      all_closed : Closed m A L
      all_closed i l e =
          either (any_head s i) (λ o. sym (kept_once L i l (reg.heads i l o)) ∙ e)
          (λ o. closed i l (round_other 1 L i o ∙ unfold after in e))

      after_closed : (N : ℕ) → Within m (after N A L) L
      unfolding after
      after_closed zero i l e = e
      after_closed (suc N) i l e = all_closed i l (all_mono m s.all (after N A L) L (after_closed N) i l e)

      pub closed_more : (N : ℕ) → Closed m (round_by s N) L
      closed_more N i l e =
          either (any_head s i) (λ o. closed i l (round_head 1 L i o ∙ sym (round_head N L i o) ∙ e))
          (λ o. after_closed N i l (sym (round_other N L i o) ∙ e))

    -- support: a set that rises under the step over rows still does so after a round
    pub supported : (N : ℕ) (v : Set) → Within m v (A v) → Within m v (round_by s (suc N) v)
        → Within m (round_by s (suc N) v) (A (round_by s (suc N) v))
    supported N v up rise i l e =
        let w : Set = round_by s (suc N) v in
        let u : Set = after N A v in
        let u_w : Within m u w =
        λ j b q. either (any_head s j) (λ o. rise j b (sym (kept_head N v j b o) ∙ q))
        (λ o.
        round_other (suc N) v j o ∙ ap (λ (f : Set). f j) (sym (after_shift N A v))
        ∙ after_mono m A (all_mono m s.all) N v (A v) up j b q)
        in
        either (any_head s i) (λ o. kept_once w i l (reg.heads i l o) ∙ e)
        (λ o. all_mono m s.all u w u_w i l (unfold after in (sym (round_other (suc N) v i o) ∙ e)))

    -- every set on the way is supported
    pub support : (N t : ℕ) → Within m (after t (round_by s (suc N)) s.start) (A (after t (round_by s (suc N)) s.start))
    unfolding after
    support N zero i l e = start_all i l e
    support N (suc t) i l e =
        supported N (after t (round_by s (suc N)) s.start) (support N t)
        (after_rises m (round_by s (suc N)) s.start (round_mono (suc N)) (start_round (suc N)) t) i l e

    -- nothing too little: a supported set that N steps a round leave, one step a round leaves
    pub closed_fewer : (N : ℕ) (W : Set) → Within m W (A W) → Closed m (round_by s (suc N)) W → Closed m (round_by s 1) W
    closed_fewer N W up closed i l e =
        either (any_head s i) (λ o. closed i l (round_head (suc N) W i o ∙ sym (round_head 1 W i o) ∙ e))
        (λ o.
        closed i l
        (round_other (suc N) W i o ∙ ap (λ (f : Set). f i) (sym (after_shift N A W))
        ∙ after_start m A (A W) (all_mono m s.all) (all_mono m s.all W (A W) up) N i l
        (unfold after in (sym (round_other 1 W i o) ∙ e))))

    -- so what the rounds reach does not depend on N
    pub alike : (N : ℕ) → Same m (reached m (round_by s (suc N)) s.start) (reached m (round_by s 1) s.start)
    alike N =
        let T : Set → Set = round_by s (suc N) in
        let W : Set = reached m T s.start in
        let L : Set = reached m (round_by s 1) s.start in
        let w : Least m T s.start W = reached_least m T s.start (round_mono (suc N)) (start_round (suc N)) in
        let l : Least m (round_by s 1) s.start L = reached_least m (round_by s 1) s.start (round_mono 1) (start_round 1) in
        let up : Within m W (A W) = unfold reached in support N (rounds m T s.start) in
        both_within m W L (w.least L l.contains (closed_more L l.closed (suc N)))
        (l.least W w.contains (closed_fewer N W up w.closed))
