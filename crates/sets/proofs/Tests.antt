-- The computed tests decide what they are for.
-- Assumes nothing.
use mathlib.Core.Path.{◌≡◌, refl, sym, ap, ap₂, ◌∙◌, subst}
use mathlib.Core.Logic.{⊎_elim}
use mathlib.Core.Bool.{Bool, true, false, not, ◌&&◌, ◌||◌, beq}
use Prim.Native.Nat.{ℕ, zero, suc, ◌<◌}
use native.Mathlib.Nat.{not-suc-le-zero, eq-or-lt_of_le, le_of_suc-le-suc, lt-suc_self, le_step}
use native.Mathlib.Omega.{arith}
use borrow.Author.Tests.{eqb-true, eq-eqb}
use Rattle.sets.specs.Set.{Set, Within, Same, every, exists, within, meets, same, only}
use Rattle.sets.proofs.Logic.{either, clash, not-true, iff, and_left, and_right, and_make, or_left, or_right, or_elim, of_not, not_of_false, beq_eq, beq_refl}

-- what holds below n and at n holds below n + 1
pub below_suc : (P : ℕ → Type 0) (n : ℕ) → ((i : ℕ) → i < n → P i) → P n → (i : ℕ) → i < suc n → P i
below_suc P n all here i l = ⊎_elim (λ e. subst P (sym e) here) (λ lt. all i lt) (eq-or-lt_of_le (le_of_suc-le-suc l))

pub every_at : (n : ℕ) (p : Set) → every n p ≡ true → (i : ℕ) → i < n → p i ≡ true
unfolding every
every_at zero p e i l = absurd (not-suc-le-zero l)
every_at (suc n) p e i l =
    below_suc (λ i. p i ≡ true) n (every_at n p (and_right (p n) (every n p) e)) (and_left (p n) (every n p) e) i l

pub every_make : (n : ℕ) (p : Set) → ((i : ℕ) → i < n → p i ≡ true) → every n p ≡ true
unfolding every
every_make zero p h = refl
every_make (suc n) p h = and_make (h n (omega arith)) (every_make n p (λ i l. h i (omega arith)))

pub exists_make : (n : ℕ) (p : Set) (i : ℕ) → i < n → p i ≡ true → exists n p ≡ true
unfolding exists
exists_make zero p i l e = absurd (not-suc-le-zero l)
exists_make (suc n) p i l e =
    ⊎_elim (λ q. or_left (exists n p) (subst (λ k. p k ≡ true) q e)) (λ lt. or_right (p n) (exists_make n p i lt e))
    (eq-or-lt_of_le (le_of_suc-le-suc l))

pub exists_find : (n : ℕ) (p : Set) → exists n p ≡ true → (i : ℕ) × (i < n) × (p i ≡ true)
unfolding exists
exists_find zero p e = clash e refl
exists_find (suc n) p e =
    or_elim (p n) (exists n p) e (λ q. (n, omega arith, q))
    (λ q. let r = exists_find n p q in let l : r.0 < n = r.1 in (r.0, omega arith, r.2))

pub exists_none : (n : ℕ) (p : Set) → exists n p ≡ false → (i : ℕ) → i < n → p i ≡ false
exists_none n p e i l = not-true (p i) (λ t. clash (exists_make n p i l t) e)

-- some member of f is in r, where f is g with t: t is, or some member of g
pub exists_one : (n t : ℕ) (f g r : Set) → t < n → ((b : ℕ) → f b ≡ only t b || g b)
    → exists n (λ b. f b && r b) ≡ r t || exists n (λ b. g b && r b)
exists_one n t f g r l h =
    iff (exists n (λ b. f b && r b)) (r t || exists n (λ b. g b && r b))
    (λ e.
    let q = exists_find n (λ b. f b && r b) e in
    let b : ℕ = q.0 in
    let there : r b ≡ true = and_right (f b) (r b) q.2 in
    or_elim (only t b) (g b) (sym (h b) ∙ and_left (f b) (r b) q.2)
    (λ o. or_left (exists n (λ b. g b && r b)) (ap r (eqb-true t b o) ∙ there))
    (λ o. or_right (r t) (exists_make n (λ b. g b && r b) b q.1 (and_make o there))))
    (λ e.
    or_elim (r t) (exists n (λ b. g b && r b)) e
    (λ o. exists_make n (λ b. f b && r b) t l (and_make (h t ∙ or_left (g t) (eq-eqb t t refl)) o))
    (λ o.
    let q = exists_find n (λ b. g b && r b) o in
    let b : ℕ = q.0 in
    exists_make n (λ b. f b && r b) b q.1
    (and_make (h b ∙ or_right (only t b) (and_left (g b) (r b) q.2)) (and_right (g b) (r b) q.2))))

pub within_at : (n : ℕ) (f g : Set) → within n f g ≡ true → Within n f g
unfolding within
within_at n f g e i l p =
    or_elim (not (f i)) (g i) (every_at n (λ i. not (f i) || g i) e i l) (λ q. clash p (of_not (f i) q)) (λ q. q)

pub within_make : (n : ℕ) (f g : Set) → Within n f g → within n f g ≡ true
unfolding within
within_make n f g h =
    every_make n (λ i. not (f i) || g i)
    (λ i l. either (f i) (λ t. or_right (not (f i)) (h i l t)) (λ e. or_left (g i) (not_of_false (f i) e)))

pub meets_make : (n : ℕ) (f g : Set) (i : ℕ) → i < n → f i ≡ true → g i ≡ true → meets n f g ≡ true
unfolding meets
meets_make n f g i l p q = exists_make n (λ i. f i && g i) i l (and_make p q)

pub meets_find : (n : ℕ) (f g : Set) → meets n f g ≡ true → (i : ℕ) × (i < n) × (f i ≡ true) × (g i ≡ true)
unfolding meets
meets_find n f g e =
    let r = exists_find n (λ i. f i && g i) e in
    let i : ℕ = r.0 in
    (i, r.1, and_left (f i) (g i) r.2, and_right (f i) (g i) r.2)

pub same_at : (n : ℕ) (f g : Set) → same n f g ≡ true → Same n f g
unfolding same
same_at n f g e i l = beq_eq (f i) (g i) (every_at n (λ i. beq (f i) (g i)) e i l)

pub same_make : (n : ℕ) (f g : Set) → Same n f g → same n f g ≡ true
unfolding same
same_make n f g h = every_make n (λ i. beq (f i) (g i)) (λ i l. beq_refl (f i) (g i) (h i l))

-- sets that lie within each other are the same
pub both_within : (n : ℕ) (f g : Set) → Within n f g → Within n g f → Same n f g
both_within n f g p q i l = iff (f i) (g i) (p i l) (q i l)

pub same_within : (n : ℕ) (f g : Set) → Same n f g → Within n f g
same_within n f g s i l p = sym (s i l) ∙ p

pub same_sym : (n : ℕ) (f g : Set) → Same n f g → Same n g f
same_sym n f g s i l = sym (s i l)

-- tests that are the same below n hold alike of every number
pub every_same : (n : ℕ) (f g : Set) → Same n f g → every n f ≡ every n g
unfolding every
every_same zero f g h = refl
every_same (suc n) f g h = ap₂ ◌&&◌ (h n (lt-suc_self n)) (every_same n f g (λ i l. h i (le_step l)))

-- and alike of some number
pub exists_same : (n : ℕ) (f g : Set) → Same n f g → exists n f ≡ exists n g
unfolding exists
exists_same zero f g h = refl
exists_same (suc n) f g h = ap₂ ◌||◌ (h n (lt-suc_self n)) (exists_same n f g (λ i l. h i (le_step l)))

-- sets that are the same below n lie within one another alike
pub within_same : (n : ℕ) (f f' g g' : Set) → Same n f f' → Same n g g' → within n f g ≡ within n f' g'
unfolding within
within_same n f f' g g' p q =
    every_same n (λ i. not (f i) || g i) (λ i. not (f' i) || g' i) (λ i l. ap₂ (λ (x y : Bool). not x || y) (p i l) (q i l))

-- and meet alike
pub meets_same : (n : ℕ) (f f' g g' : Set) → Same n f f' → Same n g g' → meets n f g ≡ meets n f' g'
unfolding meets
meets_same n f f' g g' p q =
    exists_same n (λ i. f i && g i) (λ i. f' i && g' i) (λ i l. ap₂ ◌&&◌ (p i l) (q i l))

-- and are alike the same
pub same_same : (n : ℕ) (f f' g g' : Set) → Same n f f' → Same n g g' → same n f g ≡ same n f' g'
unfolding same
same_same n f f' g g' p q =
    every_same n (λ i. beq (f i) (g i)) (λ i. beq (f' i) (g' i)) (λ i l. ap₂ beq (p i l) (q i l))

-- none: not some is every not
pub not_exists : (n : ℕ) (p : Set) → not (exists n p) ≡ every n (λ i. not (p i))
unfolding exists every
not_exists zero p = refl
not_exists (suc n) p = not_or (p n) (exists n p) ∙ ap (λ (b : Bool). not (p n) && b) (not_exists n p)
  where
    not_or : (a b : Bool) → not (a || b) ≡ not a && not b
    not_or true b = refl
    not_or false b = refl

-- a set of one lies within v where v has it
pub only_within : (n i : ℕ) (v : Set) → i < n → within n (only i) v ≡ v i
only_within n i v l =
    iff (within n (only i) v) (v i) (λ e. within_at n (only i) v e i l (eq-eqb i i refl))
    (λ e. within_make n (only i) v (λ k m q. subst (λ x. v x ≡ true) (eqb-true i k q) e))
