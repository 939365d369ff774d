-- Numbers in lists of causes. Whether a list has a number is computed, so that a proof that cites these laws holds for a longer list too.
-- Assumes nothing.
use mathlib.Core.Path.{◌≡◌, refl, sym, ap, ◌∙◌, subst}
use mathlib.Core.Bool.{Bool, true, false, not, ◌&&◌, true≢false}
use mathlib.Core.Logic.{◌⊎◌, inl, inr, ⊎_elim}
use mathlib.Core.List.{List, [], ◌∷◌, ◌++◌}
use Prim.Native.Nat.{ℕ, ◌≤◌}
use lib.Dec.{eqb, leb}
use borrow.Author.Tests.{eqb-true, eq-eqb, leb-true}
use Rattle.limits.specs.Cause.{OneOf, line_causes, solve_kept_causes, atom_causes, solve_causes, write_causes, rounds_causes}

-- both of two tests hold
first : (a b : Bool) → a && b ≡ true → a ≡ true
first true b e = refl
first false b e = e

second : (a b : Bool) → a && b ≡ true → b ≡ true
second true b e = e
second false b e = absurd (true≢false (sym e))

-- none of ks is j
unfoldable pub without : ℕ → List ℕ → Bool
without j [] = true
without j (x ∷ xs) = not (eqb x j) && without j xs

-- so what is one of them is not j
pub other : (j k : ℕ) (ks : List ℕ) → without j ks ≡ true → OneOf k ks → k ≡ j → ⊥
unfolding without OneOf
other j k [] e m q = m
other j k (x ∷ xs) e (inl p) q = true≢false (sym (first (not (eqb x j)) (without j xs) e) ∙ ap not (eq-eqb x j (sym p ∙ q)))
other j k (x ∷ xs) e (inr m) q = other j k xs (second (not (eqb x j)) (without j xs) e) m q

-- one of ks is j, and so what is j is one of them
pub one_found : (j k : ℕ) (ks : List ℕ) → without j ks ≡ false → k ≡ j → OneOf k ks
unfolding without OneOf
one_found j k [] e q = absurd (true≢false e)
one_found j k (x ∷ xs) e q = here (eqb x j) refl (one_found j k xs)
  where
    here : (b : Bool) → eqb x j ≡ b → (without j xs ≡ false → k ≡ j → OneOf k xs) → (k ≡ x) ⊎ OneOf k xs
    here true p f = inl (q ∙ sym (eqb-true x j p))
    here false p f = inr (f (sym (ap (λ (t : Bool). not t && without j xs) p) ∙ e) q)

-- none of ks is over n
unfoldable pub up_to : ℕ → List ℕ → Bool
up_to n [] = true
up_to n (x ∷ xs) = leb x n && up_to n xs

-- so what is one of them is at most n
pub one_most : (n k : ℕ) (ks : List ℕ) → up_to n ks ≡ true → OneOf k ks → k ≤ n
unfolding up_to OneOf
one_most n k [] e m = absurd m
one_most n k (x ∷ xs) e (inl p) = subst (λ (j : ℕ). j ≤ n) (sym p) (leb-true x n (first (leb x n) (up_to n xs) e))
one_most n k (x ∷ xs) e (inr m) = one_most n k xs (second (leb x n) (up_to n xs) e) m

-- each of xs is one of ys
unfoldable pub inside : List ℕ → List ℕ → Bool
inside [] ys = true
inside (x ∷ xs) ys = not (without x ys) && inside xs ys

-- so what is one of the first list is one of the second
pub one_inside : (k : ℕ) (xs ys : List ℕ) → inside xs ys ≡ true → OneOf k xs → OneOf k ys
unfolding inside OneOf
one_inside k [] ys e m = absurd m
one_inside k (x ∷ xs) ys e (inl p) = one_found x k ys (of_not (without x ys) (first (not (without x ys)) (inside xs ys) e)) p
  where
    of_not : (b : Bool) → not b ≡ true → b ≡ false
    of_not true q = sym q
    of_not false q = refl
one_inside k (x ∷ xs) ys e (inr m) = one_inside k xs ys (second (not (without x ys)) (inside xs ys) e) m

-- none of xs is one of ys
unfoldable pub apart : List ℕ → List ℕ → Bool
apart [] ys = true
apart (x ∷ xs) ys = without x ys && apart xs ys

-- so nothing is one of each
pub one_apart : (k : ℕ) (xs ys : List ℕ) → apart xs ys ≡ true → OneOf k xs → OneOf k ys → ⊥
unfolding apart OneOf
one_apart k [] ys e m i = m
one_apart k (x ∷ xs) ys e (inl p) i = other x k ys (first (without x ys) (apart xs ys) e) i p
one_apart k (x ∷ xs) ys e (inr m) i = one_apart k xs ys (second (without x ys) (apart xs ys) e) m i

-- one of the first list, or of the second, is one of both
pub one_left : (k : ℕ) (xs ys : List ℕ) → OneOf k xs → OneOf k (xs ++ ys)
unfolding OneOf
one_left k [] ys m = absurd m
one_left k (x ∷ xs) ys (inl p) = inl p
one_left k (x ∷ xs) ys (inr m) = inr (one_left k xs ys m)

pub one_right : (k : ℕ) (xs ys : List ℕ) → OneOf k ys → OneOf k (xs ++ ys)
unfolding OneOf
one_right k [] ys m = m
one_right k (x ∷ xs) ys m = inr (one_right k xs ys m)

-- the other way
pub one_split : (k : ℕ) (xs ys : List ℕ) → OneOf k (xs ++ ys) → OneOf k xs ⊎ OneOf k ys
unfolding OneOf
one_split k [] ys m = inr m
one_split k (x ∷ xs) ys (inl p) = inl (inl p)
one_split k (x ∷ xs) ys (inr m) = further (one_split k xs ys m)
  where
    further : OneOf k xs ⊎ OneOf k ys → ((k ≡ x) ⊎ OneOf k xs) ⊎ OneOf k ys
    further (inl i) = inl (inr i)
    further (inr i) = inr i

-- the solver's causes, by what they leave
pub solve_left : {X : Type 0} (k : ℕ) → OneOf k solve_causes → (OneOf k solve_kept_causes → X) → (OneOf k line_causes → X) → (k ≡ 8 → X) → X
unfolding OneOf
solve_left k m kept line over =
    ⊎_elim (λ i. ⊎_elim kept line (one_split k solve_kept_causes line_causes i)) (⊎_elim over (λ i. absurd i))
    (one_split k (solve_kept_causes ++ line_causes) atom_causes m)

-- each number of document 01's table, and each of document 02 so far, is the solver's, the writer's or that of the rounds
pub numbers_listed : inside (1 ∷ 2 ∷ 3 ∷ 4 ∷ 5 ∷ 6 ∷ 7 ∷ 8 ∷ 9 ∷ 10 ∷ 11 ∷ 12 ∷ 13 ∷ 14 ∷ 20 ∷ 21 ∷ []) (solve_causes ++ (write_causes ++ rounds_causes)) ≡ true
unfolding inside without
numbers_listed = refl
