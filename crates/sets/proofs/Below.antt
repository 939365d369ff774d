-- What `all` of the library answers over a range: whether the test holds of every number below its end.
-- Assumes nothing.
use mathlib.Core.Path.{◌≡◌, refl, sym, ap, ap₂, ◌∙◌}
use mathlib.Core.Bool.{Bool, true, false, ◌&&◌}
use mathlib.Core.List.{List}
use Prim.Native.Nat.{ℕ, zero, suc, ◌+◌}
use native.Mathlib.Nat.{add-zero}
use native.Mathlib.Omega.{arith}
use denote.Param.Members.{Mut}
use Rattle.std.proofs.Common.{Option}
use Rattle.std.specs.List.{FoldsTo, list_all, range_with_len}
use Rattle.std.specs.declared.ops.Range.{Range}
use Rattle.std.specs.Fn.{Called}
use Rattle.std.specs.Iterator.{YieldsThen}
use Rattle.std.specs.Option.{MatchOption}
use Rattle.std.proofs.iter.Yields.{nat_range_steps}
use Rattle.std.proofs.lemmas.Iterator.{YieldsList-from_range}
use Rattle.std.proofs.lemmas.Iterator.Search.{all_from_yields_List}
use Rattle.sets.specs.Set.{Set, every}
use Rattle.sets.proofs.Tests.{every_same}

-- the test at the first number, and at those after it
every_front : (n : ℕ) (p : Set) → every (suc n) p ≡ (p 0 && every n (λ i. p (suc i)))
unfolding every
every_front zero p = refl
every_front (suc n) p = ap (λ (b : Bool). p (suc n) && b) (every_front n p) ∙ swap (p (suc n)) (p 0) (every n (λ i. p (suc i)))
  where
    swap : (a b c : Bool) → (a && (b && c)) ≡ (b && (a && c))
    swap true b c = refl
    swap false true c = refl
    swap false false c = refl

every_from : (n a : ℕ) (p : Set) → every n (λ i. p (a + i)) ≡ list_all p (range_with_len a n)
unfolding every
every_from zero a p = refl
every_from (suc n) a p =
    let more : every n (λ i. p (a + suc i)) ≡ list_all p (range_with_len (a + 1) n) =
    every_same n (λ i. p (a + suc i)) (λ i. p ((a + 1) + i)) (λ i l. ap p (omega arith)) ∙ every_from n (a + 1) p in
    every_front n (λ i. p (a + i)) ∙ ap₂ (λ (b c : Bool). b && c) (ap p (add-zero a)) more

-- the test at every number below n is that of a range's items
pub every_is : (n : ℕ) (p : Set) → every n p ≡ list_all p (range_with_len 0 n)
every_is n p = every_same n p (λ i. p (0 + i)) (λ i l. ap p (omega arith)) ∙ every_from n 0 p

-- so `all` over a range answers it
pub every_below : {F : Type 0} {g : Mut F (ℕ × Unit {0}) Bool} (test : Set) (n : ℕ) (u : Range ℕ) (f : F) (r : Bool)
    → (xs : List ℕ) × (o : Option ℕ) × (j : F) × YieldsThen nat_range_steps (record { start = 0; end = n }) xs o u
    × FoldsTo (λ p x q. Called g p (x, tt) true q) f xs j
    × MatchOption o (r ≡ true) (λ x. (r ≡ false) × ((h : F) × Called g j (x, tt) false h))
    → ((x : ℕ) (b : Bool) (q : F) → Called g f (x, tt) b q → (q ≡ f) × (b ≡ test x)) → r ≡ every n test
every_below test n u f r ran computes =
    all_from_yields_List test u f r ran (YieldsList-from_range 0 n n refl (omega arith)) computes ∙ sym (every_is n test)
