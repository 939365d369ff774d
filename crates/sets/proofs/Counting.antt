-- Counting the members below n.
-- Assumes nothing.
use mathlib.Core.Path.{◌≡◌, refl, sym, ap, ◌∙◌, subst}
use mathlib.Core.Logic.{⊎_elim}
use mathlib.Core.Bool.{Bool, true, false, ◌&&◌, ◌||◌}
use Prim.Native.Nat.{ℕ, zero, suc, ◌≤◌, ◌<◌, ◌+◌}
use native.Mathlib.Nat.{not-suc-le-zero, eq-or-lt_of_le, le_of_suc-le-suc}
use native.Mathlib.Omega.{arith}
use lib.Dec.{eqb, ltb}
use borrow.Author.Tests.{ltb-true, ltb-false, eqb-true, eq-eqb, ne_eqb}
use Rattle.sets.specs.Set.{Set, Within, Same, exists, count, union, only, image}
use Rattle.sets.proofs.Logic.{either, not-true, and_left, and_right, and_make, pick_true, pick_false, or_left, or_right}
use Rattle.sets.proofs.Tests.{same_within, same_sym, exists_make, exists_find, exists_none}

-- one number more, which is a member or not
pub count_in : (n : ℕ) (f : Set) → f n ≡ true → count (suc n) f ≡ suc (count n f)
unfolding count
count_in n f e = pick_true (suc (count n f)) (count n f) e

pub count_out : (n : ℕ) (f : Set) → f n ≡ false → count (suc n) f ≡ count n f
unfolding count
count_out n f e = pick_false (suc (count n f)) (count n f) e

pub count_none : (n : ℕ) (f : Set) → ((i : ℕ) → i < n → f i ≡ false) → count n f ≡ 0
unfolding count
count_none zero f h = refl
count_none (suc n) f h = count_out n f (h n (omega arith)) ∙ count_none n f (λ i l. h i (omega arith))

pub count_le : (n : ℕ) (f : Set) → count n f ≤ n
unfolding count
count_le zero f = omega arith
count_le (suc n) f =
    let ih : count n f ≤ n = count_le n f in
    either (f n) (λ e. omega (arith, count_in n f e)) (λ e. omega (arith, count_out n f e))

-- a larger set counts no less
pub count_mono : (n : ℕ) (f g : Set) → Within n f g → count n f ≤ count n g
unfolding count
count_mono zero f g h = omega arith
count_mono (suc n) f g h =
    let ih : count n f ≤ count n g = count_mono n f g (λ i l. h i (omega arith)) in
    either (f n) (λ e. omega (arith, count_in n f e, count_in n g (h n (omega arith) e)))
    (λ e. either (g n) (λ d. omega (arith, count_out n f e, count_in n g d)) (λ d. omega (arith, count_out n f e, count_out n g d)))

pub count_same : (n : ℕ) (f g : Set) → Same n f g → count n f ≡ count n g
count_same n f g s =
    let p : count n f ≤ count n g = count_mono n f g (same_within n f g s) in
    let q : count n g ≤ count n f = count_mono n g f (same_within n g f (same_sym n f g s)) in
    omega arith

-- and more where it has a further member
pub count_less : (n : ℕ) (f g : Set) (i : ℕ) → Within n f g → i < n → f i ≡ false → g i ≡ true → count n f < count n g
unfolding count
count_less zero f g i h l p q = absurd (not-suc-le-zero l)
count_less (suc n) f g i h l p q =
    let below : Within n f g = λ k m. h k (omega arith) in
    let mono : count n f ≤ count n g = count_mono n f g below in
    ⊎_elim
    (λ e. omega (arith, count_out n f (subst (λ k. f k ≡ false) e p), count_in n g (subst (λ k. g k ≡ true) e q)))
    (λ lt.
    let ih : count n f < count n g = count_less n f g i below lt p q in
    either (f n) (λ e. omega (arith, count_in n f e, count_in n g (h n (omega arith) e)))
    (λ e. either (g n) (λ d. omega (arith, count_out n f e, count_in n g d)) (λ d. omega (arith, count_out n f e, count_out n g d))))
    (eq-or-lt_of_le (le_of_suc-le-suc l))

-- within a set that counts no more, there is nothing left out
pub count_full : (n : ℕ) (f g : Set) → Within n f g → count n g ≤ count n f → Within n g f
count_full n f g h l i m p =
    either (f i) (λ e. e) (λ e. let less : count n f < count n g = count_less n f g i h m e p in absurd (omega arith))

pub count_union : (n : ℕ) (f g : Set) → count n (union f g) ≤ count n f + count n g
unfolding count
count_union zero f g = omega arith
count_union (suc n) f g =
    let ih : count n (union f g) ≤ count n f + count n g = count_union n f g in
    either (f n)
    (λ e.
    let u : count (suc n) (union f g) ≡ suc (count n (union f g)) = count_in n (union f g) (or_left (g n) e) in
    either (g n) (λ d. omega (arith, u, count_in n f e, count_in n g d)) (λ d. omega (arith, u, count_in n f e, count_out n g d)))
    (λ e. either (g n)
    (λ d. omega (arith, count_in n (union f g) (or_right (f n) d), count_out n f e, count_in n g d))
    (λ d. omega (arith, count_out n (union f g) (neither (f n) (g n) e d), count_out n f e, count_out n g d)))
  where
    neither : (a b : Bool) → a ≡ false → b ≡ false → a || b ≡ false
    neither a b p q = rw (p, q)

-- the count below i is the rank of i
pub count_prefix : (i n : ℕ) (f : Set) → i ≤ n → count i f ≤ count n f
unfolding count
count_prefix i zero f l = let e : i ≡ 0 = omega arith in subst (λ (k : ℕ). count k f ≤ 0) (sym e) (omega arith)
count_prefix i (suc n) f l =
    ⊎_elim (λ e. subst (λ (k : ℕ). count i f ≤ count k f) e (omega arith))
    (λ lt.
    let ih : count i f ≤ count n f = count_prefix i n f (le_of_suc-le-suc lt) in
    either (f n) (λ e. omega (arith, count_in n f e)) (λ e. omega (arith, count_out n f e)))
    (eq-or-lt_of_le l)

pub rank_less : (i n : ℕ) (f : Set) → i < n → f i ≡ true → count i f < count n f
rank_less i n f l e =
    let p : count (suc i) f ≤ count n f = count_prefix (suc i) n f l in
    omega (arith, count_in i f e)

-- members of one rank are one
pub rank_one : (i j : ℕ) (f : Set) → f i ≡ true → f j ≡ true → count i f ≡ count j f → i ≡ j
rank_one i j f p q e =
    either (ltb i j) (λ t. let a : count i f < count j f = rank_less i j f (ltb-true i j t) p in absurd (omega arith))
    (λ t. either (ltb j i) (λ u. let a : count j f < count i f = rank_less j i f (ltb-true j i u) q in absurd (omega arith))
    (λ u. let a : j ≤ i = ltb-false i j t in let b : i ≤ j = ltb-false j i u in omega arith))

-- two members count two
pub count_two : (n i j : ℕ) (f : Set) → i < j → j < n → f i ≡ true → f j ≡ true → 2 ≤ count n f
count_two n i j f l b p q =
    let a : count i f < count j f = rank_less i j f l p in
    let c : count j f < count n f = rank_less j n f b q in
    omega arith

-- a count above 0 has a member, and a member makes it so
pub count_pos : (n i : ℕ) (f : Set) → i < n → f i ≡ true → 0 < count n f
count_pos n i f l e = let a : count i f < count n f = rank_less i n f l e in omega arith

pub count_find : (n : ℕ) (f : Set) → 0 < count n f → (i : ℕ) × (i < n) × (f i ≡ true)
count_find n f l =
    either (exists n f) (λ e. exists_find n f e) (λ e. let z : count n f ≡ 0 = count_none n f (exists_none n f e) in absurd (omega arith))

-- a new member counts one more
pub count_add_one : (n i : ℕ) (f : Set) → i < n → f i ≡ false → count n (union f (only i)) ≡ suc (count n f)
unfolding count
count_add_one zero i f l e = absurd (not-suc-le-zero l)
count_add_one (suc n) i f l e =
    let u : Set = union f (only i) in
    ⊎_elim
    (λ q.
    let below : count n u ≡ count n f = count_same n u f (λ k b. beside f i k (omega arith)) in
    let gone : f n ≡ false = subst (λ (k : ℕ). f k ≡ false) q e in
    omega (arith, count_in n u (or_right (f n) (eq-eqb i n q)), count_out n f gone))
    (λ b.
    let ih : count n u ≡ suc (count n f) = count_add_one n i f b e in
    let same : u n ≡ f n = beside f i n (omega arith) in
    either (f n) (λ t. omega (arith, count_in n u (same ∙ t), count_in n f t))
    (λ t. omega (arith, count_out n u (same ∙ t), count_out n f t)))
    (eq-or-lt_of_le (le_of_suc-le-suc l))
  where
    beside : (f : Set) (i k : ℕ) → (i ≡ k → ⊥) → union f (only i) k ≡ f k
    beside f i k ne = either (f k) (λ t. or_left (only i k) t ∙ sym t) (λ t. rw (t, ne_eqb i k ne))

-- an image has a member's place, and each of its places has a member
pub image_make : (r : ℕ) (g : ℕ → ℕ) (f : Set) (j : ℕ) → j < r → f j ≡ true → image r g f (g j) ≡ true
unfolding image
image_make r g f j l e = exists_make r (λ k. eqb (g k) (g j) && f k) j l (and_make (eq-eqb (g j) (g j) refl) e)

pub image_find : (r : ℕ) (g : ℕ → ℕ) (f : Set) (i : ℕ) → image r g f i ≡ true → (j : ℕ) × (j < r) × (g j ≡ i) × (f j ≡ true)
unfolding image
image_find r g f i e =
    let q = exists_find r (λ k. eqb (g k) i && f k) e in
    let j : ℕ = q.0 in
    (j, q.1, eqb-true (g j) i (and_left (eqb (g j) i) (f j) q.2), and_right (eqb (g j) i) (f j) q.2)

-- one number more: where it goes to another place, or is no member, the image is as it was
pub image_other : (r : ℕ) (g : ℕ → ℕ) (f : Set) (i : ℕ) → (g r ≡ i → ⊥) → image (suc r) g f i ≡ image r g f i
unfolding image exists
image_other r g f i n = ap (λ (b : Bool). (b && f r) || exists r (λ k. eqb (g k) i && f k)) (ne_eqb (g r) i n)

pub image_out : (r : ℕ) (g : ℕ → ℕ) (f : Set) (i : ℕ) → f r ≡ false → image (suc r) g f i ≡ image r g f i
unfolding image exists
image_out r g f i e = kept (eqb (g r) i) (f r) (exists r (λ k. eqb (g k) i && f k)) e
  where
    kept : (a b c : Bool) → b ≡ false → (a && b) || c ≡ c
    kept true b c e = rw e
    kept false b c e = refl

-- and where it is one, its place joins
pub image_in : (r : ℕ) (g : ℕ → ℕ) (f : Set) (i : ℕ) → f r ≡ true → image (suc r) g f i ≡ union (image r g f) (only (g r)) i
unfolding image exists
image_in r g f i e = grown (eqb (g r) i) (f r) (exists r (λ k. eqb (g k) i && f k)) e
  where
    grown : (a b c : Bool) → b ≡ true → (a && b) || c ≡ c || a
    grown true b true e = rw e
    grown true b false e = rw e
    grown false b true e = refl
    grown false b false e = refl

-- where no smaller number goes to its place, it decides there alone
pub image_here : (r : ℕ) (g : ℕ → ℕ) (f : Set) → ((k : ℕ) → k < r → g k ≡ g r → ⊥) → image (suc r) g f (g r) ≡ f r
image_here r g f none =
    either (f r) (λ t. image_make (suc r) g f r (omega arith) t ∙ sym t)
    (λ e. image_out r g f (g r) e ∙ not-true (image r g f (g r)) (λ t. let q = image_find r g f (g r) t in none q.0 q.1 q.2) ∙ sym e)

-- an image counts as many as f where g is one to one below r and stays below n
pub count_image : (n r : ℕ) (g : ℕ → ℕ) (f : Set)
    → ((j : ℕ) → j < r → g j < n)
    → ((j k : ℕ) → j < r → k < r → g j ≡ g k → j ≡ k)
    → count n (image r g f) ≡ count r f
count_image n zero g f into inj = count_none n (image zero g f) (λ i l. unfold image exists in refl) ∙ unfold count in refl
count_image n (suc r) g f into inj =
    let ih : count n (image r g f) ≡ count r f = count_image n r g f (λ j l. into j (omega arith)) (λ j k a b. inj j k (omega arith) (omega arith)) in
    either (f r)
    (λ e.
    let new : image r g f (g r) ≡ false =
    not-true (image r g f (g r))
    (λ t.
    let q = image_find r g f (g r) t in
    let l : q.0 < r = q.1 in
    let z : q.0 ≡ r = inj q.0 r (omega arith) (omega arith) q.2 in
    omega arith)
    in
    let one_more : count n (image (suc r) g f) ≡ count n (union (image r g f) (only (g r))) =
    count_same n (image (suc r) g f) (union (image r g f) (only (g r)))
    (λ i l. image_in r g f i e)
    in
    one_more ∙ count_add_one n (g r) (image r g f) (into r (omega arith)) new ∙ ap suc ih ∙ sym (count_in r f e))
    (λ e.
    count_same n (image (suc r) g f) (image r g f)
    (λ i l. image_out r g f i e)
    ∙ ih ∙ sym (count_out r f e))

-- a set with no member from n on counts up to n
pub count_tail : (n m : ℕ) (f : Set) → n ≤ m → ((i : ℕ) → n ≤ i → i < m → f i ≡ false) → count m f ≡ count n f
count_tail n zero f l h = let e : n ≡ 0 = omega arith in ap (λ (k : ℕ). count k f) (sym e)
count_tail n (suc m) f l h =
    ⊎_elim (λ e. ap (λ (k : ℕ). count k f) (sym e))
    (λ lt. count_out m f (h m (le_of_suc-le-suc lt) (omega arith)) ∙ count_tail n m f (le_of_suc-le-suc lt) (λ i a b. h i a (omega arith)))
    (eq-or-lt_of_le l)
