-- For every program and every number of folds, a name is held exactly where it lies in every model.
-- Assumes nothing.
use mathlib.Core.Path.{◌≡◌, refl, sym, ap, ◌∙◌, subst}
use mathlib.Core.Logic.{◌↔◌}
use mathlib.Core.Bool.{true, false, not, ◌&&◌}
use Prim.Native.Nat.{ℕ, ◌≤◌, ◌<◌}
use native.Mathlib.Omega.{arith}
use lib.Dec.{ltb}
use borrow.Author.Tests.{lt-ltb, le-ltb}
use Rattle.sets.specs.Set.{Set, Within, Same, pick, only, image, within, meets}
use Rattle.sets.specs.Steps.{Closed, Least}
use Rattle.sets.proofs.Logic.{either, clash, iff, and_left, and_right, and_make, not_of_false, pick_true, pick_false}
use Rattle.sets.proofs.Tests.{exists_none, within_at, within_make, meets_make, meets_find, within_same, only_within}
use Rattle.sets.proofs.Counting.{image_make, image_find}
use Rattle.program.specs.Program.{Program, WellFormed, Model, InEveryModel, size, head_at, body_at, plain_held}
use Rattle.program.specs.System.{System, any_head, all_step, round, folded, rows_after, held_by}
use Rattle.program.specs.Standard.{several, helper, home, has_body, counted_atoms, all_row, any_row, start_set, standard}
use Rattle.program.proofs.Homes.{home_several, home_single, helper_past, helper_below, helper_one, names_below, home_below, any_make, any_find, head_make, home_no_head}
use Rattle.program.proofs.Atoms.{start_home, bears, regular}
use Rattle.program.proofs.Systems.{held_alike, held_least}
use Rattle.program.proofs.Plain.{plain_held_lem}

-- a round at an "any" head, and at another atom
round_head : (s : System) (v : Set) (i : ℕ) → any_head s i ≡ true → round s v i ≡ meets s.atoms (s.any i) v
unfolding round
round_head s v i e = pick_true (meets s.atoms (s.any i) v) (all_step s.atoms s.all v i) e

round_other : (s : System) (v : Set) (i : ℕ) → any_head s i ≡ false → round s v i ≡ within s.atoms (s.all i) v
unfolding round all_step
round_other s v i e = pick_false (meets s.atoms (s.any i) v) (all_step s.atoms s.all v i) e

module _ (p : Program) (formed : WellFormed p) where
  abbrev n : ℕ
  n = p.names

  abbrev r : ℕ
  r = size p

  abbrev atoms : ℕ
  atoms = helper p r

  -- a set of names over the atoms: a helper is in it where its rule's body lies in the set
  unfoldable spread : Set → Set
  spread M i = pick (ltb i n) (M i) (image r (helper p) (λ j. several p j && within n (body_at p j) M) i)

  spread_name : (M : Set) (i : ℕ) → i < n → spread M i ≡ M i
  unfolding spread
  spread_name M i l = pick_true (M i) (image r (helper p) (λ j. several p j && within n (body_at p j) M) i) (lt-ltb i n l)

  spread_helper : (M : Set) (j : ℕ) → j < r → several p j ≡ true → spread M (helper p j) ≡ within n (body_at p j) M
  unfolding spread
  spread_helper M j l s =
      let f : Set = λ k. several p k && within n (body_at p k) M in
      pick_false (M (helper p j)) (image r (helper p) f (helper p j)) (le-ltb (helper p j) n (helper_past p j))
      ∙ iff (image r (helper p) f (helper p j)) (within n (body_at p j) M)
      (λ e.
      let q = image_find r (helper p) f (helper p j) e in
      let sk : several p q.0 ≡ true = and_left (several p q.0) (within n (body_at p q.0) M) q.3 in
      subst (λ (k : ℕ). within n (body_at p k) M ≡ true) (helper_one p q.0 j sk s q.2)
      (and_right (several p q.0) (within n (body_at p q.0) M) q.3))
      (λ e. image_make r (helper p) f j l (and_make s e))

  -- where M has what a rule's body asks, its spread has the rule's home
  spread_home : (M : Set) → Model p M → (j : ℕ) → j < r → Within n (body_at p j) M → spread M (home p j) ≡ true
  spread_home M model j l w =
      either (several p j)
      (λ s. ap (spread M) (home_several p j s) ∙ spread_helper M j l s ∙ within_make n (body_at p j) M w)
      (λ s. ap (spread M) (home_single p j s) ∙ spread_name M (head_at p j) (formed.heads j l) ∙ model j l w)

  -- the spread of a model has the start set
  spread_start : (M : Set) → Model p M → Within atoms (start_set p) (spread M)
  unfolding start_set
  spread_start M model i l e =
      let q = image_find r (home p) (λ j. not (has_body p j)) i e in
      let j : ℕ = q.0 in
      subst (λ (x : ℕ). spread M x ≡ true) q.2
      (spread_home M model j q.1 (λ k b t.
      either (has_body p j) (λ f. clash q.3 (ap not f)) (λ f. clash t (exists_none n (body_at p j) (unfold has_body in f) k b))))

  -- and is closed under a round: at an "any" head, at the home of a rule with a body, at an atom that is alone
  closed_head : (M : Set) → Model p M → (i : ℕ) → meets atoms (any_row p i) (spread M) ≡ true → spread M i ≡ true
  closed_head M model i e =
      let f = meets_find atoms (any_row p i) (spread M) e in
      let q = any_find p i f.0 f.2 in
      let j : ℕ = q.0 in
      let body : within n (body_at p j) M ≡ true =
      sym (spread_helper M j q.1 q.2) ∙ ap (spread M) q.4 ∙ f.3
      in
      subst (λ (x : ℕ). spread M x ≡ true) q.3
      (spread_name M (head_at p j) (formed.heads j q.1) ∙ model j q.1 (within_at n (body_at p j) M body))

  closed_home : (M : Set) → Model p M → (i : ℕ) → counted_atoms p i ≡ true → within atoms (all_row p i) (spread M) ≡ true → spread M i ≡ true
  unfolding counted_atoms
  closed_home M model i b e =
      let q = image_find r (home p) (has_body p) i b in
      let j : ℕ = q.0 in
      let more : n ≤ atoms = names_below p in
      subst (λ (x : ℕ). spread M x ≡ true) q.2
      (spread_home M model j q.1 (λ k l t.
      let at : all_row p i k ≡ true = ap (λ (x : ℕ). all_row p x k) (sym q.2) ∙ (bears p formed j q.1).row q.3 k ∙ t in
      sym (spread_name M k l) ∙ within_at atoms (all_row p i) (spread M) e k (omega arith) at))

  spread_closed : (M : Set) → Model p M → Closed atoms (round (standard p)) (spread M)
  spread_closed M model i l e =
      let s : System = standard p in
      either (any_head s i) (λ o. closed_head M model i ((sym (round_head s (spread M) i o) ∙ e)))
      (λ o.
      let w : within atoms (all_row p i) (spread M) ≡ true = (sym (round_other s (spread M) i o) ∙ e) in
      either (counted_atoms p i) (λ b. closed_home M model i b w)
      (λ b.
      sym (within_same atoms (all_row p i) (only i) (spread M) (spread M) (((regular p formed).kept i l b)) (λ k m. refl)
      ∙ only_within atoms i (spread M) l) ∙ w))

  least : Least atoms (round (standard p)) (start_set p) (held_by (standard p))
  unfolding rows_after
  least = held_least (standard p) (regular p formed) 0

  -- the names held lie in every model
  pub held_within : (M : Set) → Model p M → Within n (held_by (standard p)) M
  held_within M model i l e =
      let more : n ≤ atoms = names_below p in
      sym (spread_name M i l) ∙ least.least (spread M) (spread_start M model) (spread_closed M model) i (omega arith) e

  -- and are a model: first a rule's home is held, then its head
  held_home : (j : ℕ) → j < r → Within n (body_at p j) (held_by (standard p)) → held_by (standard p) (home p j) ≡ true
  held_home j l w =
      let s : System = standard p in
      let L : Set = held_by s in
      either (has_body p j)
      (λ f.
      least.closed (home p j) (home_below p formed j l)
      (round_other s L (home p j) (home_no_head p formed j l) ∙ (within_make atoms (all_row p (home p j)) L
      (λ k b t. let body : body_at p j k ≡ true = sym ((bears p formed j l).row f k) ∙ t in w k (formed.bodies j k l body) body))))
      (λ f. least.contains (home p j) (home_below p formed j l) (start_home p formed j l ∙ not_of_false (has_body p j) f))

  pub held_model : Model p (held_by (standard p))
  held_model j l w =
      let s : System = standard p in
      let L : Set = held_by s in
      let more : n ≤ atoms = names_below p in
      let name : head_at p j < n = formed.heads j l in
      either (several p j)
      (λ m.
      let held : L (helper p j) ≡ true = ap L (sym (home_several p j m)) ∙ held_home j l w in
      least.closed (head_at p j) (omega arith)
      (round_head s L (head_at p j) (head_make p j l m) ∙ (meets_make atoms (any_row p (head_at p j)) L (helper p j) (helper_below p j l m) (any_make p j l m) held)))
      (λ m. ap L (sym (home_single p j m)) ∙ held_home j l w)

  -- Demand 3 for programs: after any number of folds, a name is held exactly where it lies in every model.
  pub held_exactly : (k a : ℕ) → a < n → (held_by (folded k (standard p)) a ≡ true) ↔ InEveryModel p a
  held_exactly k a l =
      let more : n ≤ atoms = names_below p in
      let same : held_by (folded k (standard p)) a ≡ held_by (standard p) a =
      held_alike (standard p) (regular p formed) k a ((omega arith))
      in (
        λ e M model. held_within M model a l (sym same ∙ e),
        λ every. same ∙ every (held_by (standard p)) held_model,
      )

  -- so it is held alike for all numbers of folds and by the plain route
  pub held_plain : (k : ℕ) → Same n (held_by (folded k (standard p))) (plain_held p)
  held_plain k a l =
      let here = held_exactly k a l in
      let plain = plain_held_lem p formed a l in
      iff (held_by (folded k (standard p)) a) (plain_held p a) (λ e. plain.1 (here.0 e)) (λ e. here.1 (plain.0 e))
