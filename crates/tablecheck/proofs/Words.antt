-- What `all` and `==` of the library answer, in the words of the specifications.
-- Assumes nothing.
use mathlib.Core.Path.{◌≡◌, refl, sym, ap, ◌∙◌}
use mathlib.Core.Bool.{Bool, ◌&&◌}
use mathlib.Core.List.{List, [], ◌∷◌, map}
use Prim.Native.Nat.{ℕ, ◌-◌, ◌≤◌, ◌<◌, min}
use native.Mathlib.Omega.{arith}
use Rattle.sets.proofs.Logic.{either}
use lib.Dec.{eqb, leb}
use borrow.Author.Tests.{leb-true, leb-false}
use lib.ListN.{take, drop}
use lib.Pointwise.{pointwise}
use Rattle.std.specs.List.{list_all}
use Rattle.std.proofs.lemmas.List.{drop-map, take-map, map-id}
use Rattle.grammar.specs.Bytes.{Bytes, all_of}
use Rattle.tables.specs.Numbering.{same_bytes}
use Rattle.tables.specs.Writing.{zero_from}

pub all_of_is : (p : ℕ → Bool) (xs : Bytes) → all_of p xs ≡ list_all p xs
unfolding all_of
all_of_is p [] = refl
all_of_is p (x ∷ xs) = ap (λ (b : Bool). p x && b) (all_of_is p xs)

pub same_bytes_is : (xs ys : Bytes) → same_bytes xs ys ≡ pointwise eqb xs ys
unfolding same_bytes
same_bytes_is [] [] = refl
same_bytes_is [] (y ∷ ys) = refl
same_bytes_is (x ∷ xs) [] = refl
same_bytes_is (x ∷ xs) (y ∷ ys) = ap (λ (b : Bool). eqb x y && b) (same_bytes_is xs ys)

-- a part that begins where it would end is empty
pub cut : {A : Type 0} (from to : ℕ) (xs : List A) → take (to - min from to) (drop (min from to) xs) ≡ take (to - from) (drop from xs)
cut from to xs =
    either (leb from to)
    (λ t. let l : from ≤ to = leb-true from to t in
    let e : min from to ≡ from = omega arith in ap (λ (i : ℕ). take (to - i) (drop i xs)) e)
    (λ t. let l : to < from = leb-false from to t in
    let e : to - min from to ≡ 0 = omega arith in
    let z : to - from ≡ 0 = omega arith in
    ap (λ (w : ℕ). take w (drop (min from to) xs)) e ∙ sym (ap (λ (w : ℕ). take w (drop from xs)) z))

all_by : {A : Type 0} (number : A → ℕ) (p : ℕ → Bool) (xs : List A) → all_of p (map number xs) ≡ list_all (λ x. p (number x)) xs
unfolding all_of
all_by number p [] = refl
all_by number p (x ∷ xs) = ap (λ (b : Bool). p (number x) && b) (all_by number p xs)

-- no entry of a part stands for another number than zero
pub zeros_by : {A : Type 0} (number : A → ℕ) (from to : ℕ) (xs : List A)
    → zero_from from to (map number xs) ≡ list_all (λ x. eqb (number x) 0) (take (to - from) (drop from xs))
unfolding zero_from
zeros_by number from to xs =
    ap (λ (ys : List ℕ). all_of (λ b. eqb b 0) (take (to - from) ys)) (drop-map number from xs)
    ∙ ap (all_of (λ b. eqb b 0)) (take-map number (to - from) (drop from xs)) ∙ all_by number (λ b. eqb b 0) (take (to - from) (drop from xs))

-- a number stands for itself
pub zeros_of : (from to : ℕ) (area : List ℕ) → zero_from from to (map (λ n. n) area) ≡ zero_from from to area
zeros_of from to area = ap (zero_from from to) (map-id area)
