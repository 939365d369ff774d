-- One rule more placed: what changes in the rows, in the start set and in the counts, and what is there at the start and in the end.
-- Assumes nothing.
use mathlib.Core.Path.{◌≡◌, refl, ap, ap₂, ◌∙◌}
use mathlib.Core.Bool.{Bool, true, false, not, ◌&&◌, ◌||◌}
use Prim.Native.Nat.{ℕ, suc, ◌+◌, ◌<◌}
use native.Mathlib.Omega.{arith}
use lib.Dec.{eqb}
use borrow.Author.Tests.{eq-eqb, ne_eqb}
use Rattle.sets.specs.Set.{pick, exists, only, image, union, empty_set}
use Rattle.sets.proofs.Logic.{clash, not-true, pick_true}
use Rattle.sets.proofs.Tests.{exists_none}
use Rattle.sets.proofs.Counting.{count_in, count_out, image_other, image_out, image_in, image_here}
use Rattle.program.specs.Program.{Program, WellFormed, size, head_at, body_at}
use Rattle.program.specs.Standard.{several, helper, home, has_body, counted_atoms, all_row, any_row, start_set}
use Rattle.program.proofs.Homes.{home_one}
use Rattle.placing.specs.Partial.{all_up_to, any_up_to, start_up_to}

module _ (p : Program) where
  -- before the first rule: rows alone, empty rows, no start atom
  pub all_start : (i : ℕ) → all_up_to p 0 i ≡ only i
  unfolding all_up_to image exists pick
  all_start i = refl

  pub any_start : (i : ℕ) → any_up_to p 0 i ≡ empty_set
  unfolding any_up_to exists
  any_start i = refl

  pub start_start : start_up_to p 0 ≡ empty_set
  unfolding start_up_to image exists
  start_start = refl

  -- after the last: the definitions
  pub all_end : (j : ℕ) → j ≡ size p → all_up_to p j ≡ all_row p
  unfolding all_up_to all_row counted_atoms
  all_end j e = ap (λ (k : ℕ). all_up_to p k) e

  pub any_end : (j : ℕ) → j ≡ size p → any_up_to p j ≡ any_row p
  unfolding any_up_to any_row
  any_end j e = ap (λ (k : ℕ). any_up_to p k) e

  pub start_end : (j : ℕ) → j ≡ size p → start_up_to p j ≡ start_set p
  unfolding start_up_to start_set
  start_end j e = ap (λ (k : ℕ). start_up_to p k) e

  -- a rule with a helper has the next one, and one without has none
  pub helper_next : (j : ℕ) → several p j ≡ true → helper p (suc j) ≡ helper p j + 1
  unfolding helper
  helper_next j s = omega (arith, count_in j (several p) s)

  pub helper_same : (j : ℕ) → several p j ≡ false → helper p (suc j) ≡ helper p j
  unfolding helper
  helper_same j s = ap (λ (x : ℕ). p.names + x) (count_out j (several p) s)

  -- a rule with a helper adds it to the row of its head, and to no other
  pub any_head_lem : (j : ℕ) → several p j ≡ true → (k : ℕ) → any_up_to p (suc j) (head_at p j) k ≡ union (any_up_to p j (head_at p j)) (only (helper p j)) k
  unfolding any_up_to exists
  any_head_lem j s k =
      added (several p j) (eqb (head_at p j) (head_at p j)) (eqb (helper p j) k) (any_up_to p j (head_at p j) k) s (eq-eqb (head_at p j) (head_at p j) refl)
    where
      added : (a b c d : Bool) → a ≡ true → b ≡ true → (a && (b && c)) || d ≡ d || c
      added a b true true e f = rw (e, f)
      added a b true false e f = rw (e, f)
      added a b false true e f = rw (e, f)
      added a b false false e f = rw (e, f)

  pub any_other : (j i : ℕ) → (head_at p j ≡ i → ⊥) → (k : ℕ) → any_up_to p (suc j) i k ≡ any_up_to p j i k
  unfolding any_up_to exists
  any_other j i n k = passed (several p j) (eqb (head_at p j) i) (eqb (helper p j) k) (any_up_to p j i k) (ne_eqb (head_at p j) i n)
    where
      passed : (a b c d : Bool) → b ≡ false → (a && (b && c)) || d ≡ d
      passed true b c d e = rw e
      passed false b c d e = refl

  -- a rule without one changes no "any" row
  pub any_same : (j : ℕ) → several p j ≡ false → (i k : ℕ) → any_up_to p (suc j) i k ≡ any_up_to p j i k
  unfolding any_up_to exists
  any_same j s i k = ap (λ (b : Bool). (b && (eqb (head_at p j) i && eqb (helper p j) k)) || any_up_to p j i k) s

  -- a rule with a body changes no start atom, and one without adds its home
  pub start_same : (j : ℕ) → has_body p j ≡ true → (k : ℕ) → start_up_to p (suc j) k ≡ start_up_to p j k
  unfolding start_up_to
  start_same j h k = image_out j (home p) (λ l. not (has_body p l)) k (ap not h)

  pub start_home : (j : ℕ) → has_body p j ≡ false → (k : ℕ) → start_up_to p (suc j) k ≡ union (start_up_to p j) (only (home p j)) k
  unfolding start_up_to
  start_home j h k = image_in j (home p) (λ l. not (has_body p l)) k (ap not h)

  -- no rule changes the row of another's home
  pub all_other : (j i : ℕ) → (home p j ≡ i → ⊥) → (k : ℕ) → all_up_to p (suc j) i k ≡ all_up_to p j i k
  unfolding all_up_to
  all_other j i n k =
      ap₂ (λ (a b : Bool). pick a b (only i k)) (image_other j (home p) (has_body p) i n) (image_other j (home p) (λ l. body_at p l k) i n)

  module _ (formed : WellFormed p) (j : ℕ) (l : j < size p) where
    -- an earlier rule has another home
    no_earlier : (k : ℕ) → k < j → home p k ≡ home p j → ⊥
    no_earlier k b e = let q : k ≡ j = home_one p formed k j (omega arith) l e in omega arith

    -- a rule with a body fills the row of its home
    pub all_home : has_body p j ≡ true → (k : ℕ) → all_up_to p (suc j) (home p j) k ≡ body_at p j k
    unfolding all_up_to
    all_home h k =
        pick_true _ _ (image_here j (home p) (has_body p) no_earlier ∙ h) ∙ image_here j (home p) (λ l. body_at p l k) no_earlier

    -- and one without leaves it
    pub all_same : has_body p j ≡ false → (i k : ℕ) → all_up_to p (suc j) i k ≡ all_up_to p j i k
    unfolding all_up_to
    all_same h i k =
        ap₂ (λ (a b : Bool). pick a b (only i k)) (image_out j (home p) (has_body p) i h)
        (image_out j (home p) (λ l. body_at p l k) i
        (not-true (body_at p j k) (λ t. clash t (exists_none p.names (body_at p j) (unfold has_body in h) k (formed.bodies j k l t)))))
