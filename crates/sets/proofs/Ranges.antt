-- Tests and counts over a sum of bounds.
-- Assumes nothing.
use mathlib.Core.Path.{◌≡◌, refl, sym}
use mathlib.Core.Bool.{Bool, true, false, ◌&&◌, ◌||◌, and-true, or-false}
use Prim.Native.Nat.{ℕ, zero, suc, ◌+◌}
use native.Mathlib.Nat.{add-zero, add-suc}
use Rattle.sets.specs.Set.{Set, pick, every, exists, count}

-- the parts of a test change places
and_swap : (a b c : Bool) → a && (b && c) ≡ b && (a && c)
and_swap true b c = refl
and_swap false true c = refl
and_swap false false c = refl

or_swap : (a b c : Bool) → a || (b || c) ≡ b || (a || c)
or_swap false b c = refl
or_swap true true c = refl
or_swap true false c = refl

-- one more, or not, is added at the end of a sum
pick_suc : (b : Bool) (n m : ℕ) → pick b (suc (n + m)) (n + m) ≡ n + pick b (suc m) m
unfolding pick
pick_suc true n m = sym (add-suc n m)
pick_suc false n m = refl

-- every: the first n, and the k after them
pub every_add : (n k : ℕ) (p : Set) → every (n + k) p ≡ every n p && every k (λ i. p (n + i))
unfolding every
every_add n zero p = rw add-zero (sym (and-true (every n p)))
every_add n (suc k) p = rw (add-suc, every_add n k p) (and_swap (p (n + k)) (every n p) (every k (λ i. p (n + i))))

-- some: the first n, or the k after them
pub exists_add : (n k : ℕ) (p : Set) → exists (n + k) p ≡ exists n p || exists k (λ i. p (n + i))
unfolding exists
exists_add n zero p = rw add-zero (sym (or-false (exists n p)))
exists_add n (suc k) p = rw (add-suc, exists_add n k p) (or_swap (p (n + k)) (exists n p) (exists k (λ i. p (n + i))))

-- count: the first n, plus the k after them
pub count_add : (n k : ℕ) (f : Set) → count (n + k) f ≡ count n f + count k (λ i. f (n + i))
unfolding count
count_add n zero f = rw (add-zero n) (sym (add-zero (count n f)))
count_add n (suc k) f = rw (add-suc, count_add n k f) (pick_suc (f (n + k)) (count n f) (count k (λ i. f (n + i))))
