-- The first member at or past a number, and the walk from member to member.
-- Assumes nothing.
use mathlib.Core.Path.{◌≡◌, refl, sym, ap, ◌∙◌, subst}
use mathlib.Core.Logic.{⊎_elim}
use mathlib.Core.List.{List, [], ◌∷◌}
use mathlib.Core.Bool.{Bool, true, false}
use Prim.Native.Nat.{ℕ, zero, suc, ◌+◌, ◌-◌, ◌≤◌, ◌<◌}
use native.Mathlib.Nat.{add-zero, le_refl, eq-or-lt_of_le, le_antisymm}
use native.Mathlib.Numerals.{one-add}
use native.Mathlib.Omega.{arith}
use lib.Dec.{eqb, ltb}
use lib.ListN.{length, get_or}
use borrow.Author.Tests.{eqb-true, eqb-false, ltb-true, ltb-false}
use Rattle.sets.specs.Set.{Set, pick, within, count, next, members}
use Rattle.sets.proofs.Ranges.{count_add}
use Rattle.sets.proofs.Counting.{count_in, count_out, count_same}
use Rattle.sets.proofs.Logic.{either, clash, iff, pick_true, pick_false}
use Rattle.sets.proofs.Tests.{within_at, within_make}

-- r is the first member of f at or past i, or i + k where the k numbers from i hold none
abbrev pub Following : ℕ → Set → ℕ → ℕ → Type 0
Following k f i r = ((j : ℕ) → i ≤ j → j < r → f j ≡ false) × (r < i + k → f r ≡ true) × (i ≤ r) × (r ≤ i + k)

-- one number more in front, which is a member or not
first_step : (k : ℕ) (f : Set) (i r : ℕ) (b : Bool) → f i ≡ b → Following k f (suc i) r → Following (suc k) f i (pick b i r)
unfolding pick
first_step k f i r true e s = ((λ j l m. absurd (omega arith)), (λ l. e), le_refl i, omega arith)
first_step k f i r false e s = (
  (λ j l m. ⊎_elim (λ (q : i ≡ j). rw (← q) e) (λ (q : i < j). s.0 j q m) (eq-or-lt_of_le l)),
  (λ l. s.1 (omega arith)),
  omega (arith, s.2),
  omega (arith, s.3),
)

-- next is the first member, or i + k
pub next_spec : (k : ℕ) (f : Set) (i : ℕ) → Following k f i (next k f i)
unfolding next
next_spec zero f i = ((λ j l m. absurd (omega arith)), (λ l. absurd (omega arith)), le_refl i, omega arith)
next_spec (suc k) f i = first_step k f i (next k f (suc i)) (f i) refl (next_spec k f (suc i))

-- no member lies between a and the first one at or past it, r being that one or n
pub none_between : (n a r : ℕ) (f : Set) → r ≡ next (n - a) f a → (j : ℕ) → a ≤ j → j < r → f j ≡ false
none_between n a r f e = rw e (next_spec (n - a) f a).0

-- no first member comes before another
first_le : (k : ℕ) (f : Set) (i r s : ℕ) → Following k f i r → Following k f i s → s ≤ r
first_le k f i r s p q =
    either (ltb r s)
    (λ e.
    let l : r < s = ltb-true r s e in
    clash (p.1 (omega (arith, q.3))) (q.0 r p.2 l))
    (λ e. ltb-false r s e)

-- and no other number is
pub next_unique : (k : ℕ) (f : Set) (i r : ℕ)
    → i ≤ r → r ≤ i + k → ((j : ℕ) → i ≤ j → j < r → f j ≡ false) → (r < i + k → f r ≡ true) → r ≡ next k f i
next_unique k f i r low high before at =
    let p : Following k f i r = (before, at, low, high) in
    le_antisymm (first_le k f i (next k f i) r (next_spec k f i) p) (first_le k f i r (next k f i) p (next_spec k f i))

-- the first member from i + 1 is one past that of the set moved down by one
pub next_suc : (k : ℕ) (f : Set) (i : ℕ) → next k f (suc i) ≡ suc (next k (λ j. f (suc j)) i)
unfolding next pick
next_suc zero f i = refl
next_suc (suc k) f i =
    ap (pick (f (suc i)) (suc i)) (next_suc k f (suc i)) ∙ pick_under (f (suc i)) i (next k (λ j. f (suc j)) (suc i))
  where
    pick_under : (b : Bool) (x y : ℕ) → pick b (suc x) (suc y) ≡ suc (pick b x y)
    pick_under true x y = refl
    pick_under false x y = refl

-- a number in front that is a member, or not
members_in : (k : ℕ) (f : Set) (i : ℕ) → f i ≡ true → members (suc k) f i ≡ i ∷ members k f (suc i)
unfolding members
members_in k f i e = pick_true (i ∷ members k f (suc i)) (members k f (suc i)) e

members_out : (k : ℕ) (f : Set) (i : ℕ) → f i ≡ false → members (suc k) f i ≡ members k f (suc i)
unfolding members
members_out k f i e = pick_false (i ∷ members k f (suc i)) (members k f (suc i)) e

next_in : (k : ℕ) (f : Set) (i : ℕ) → f i ≡ true → next (suc k) f i ≡ i
unfolding next
next_in k f i e = pick_true i (next k f (suc i)) e

next_out : (k : ℕ) (f : Set) (i : ℕ) → f i ≡ false → next (suc k) f i ≡ next k f (suc i)
unfolding next
next_out k f i e = pick_false i (next k f (suc i)) e

-- The walk: from i on the members are the next one and those after it, up to the end n; at the end there are none.
pub walk_on : (k : ℕ) (f : Set) (i n : ℕ) → i + k ≡ n → next k f i < n
    → members k f i ≡ next k f i ∷ members (n - suc (next k f i)) f (suc (next k f i))
walk_on zero f i n e l = absurd (unfold next in omega arith)
walk_on (suc k) f i n e l =
    either (f i)
    (λ t.
    let r : next (suc k) f i ≡ i = next_in k f i t in
    let m : k ≡ n - suc i = omega arith in
    members_in k f i t ∙ ap (λ (x : ℕ). i ∷ members x f (suc i)) m ∙ ap (λ (x : ℕ). x ∷ members (n - suc x) f (suc x)) (sym r))
    (λ t.
    let r : next (suc k) f i ≡ next k f (suc i) = next_out k f i t in
    members_out k f i t ∙ walk_on k f (suc i) n (omega arith) (omega arith)
    ∙ ap (λ (x : ℕ). x ∷ members (n - suc x) f (suc x)) (sym r))

pub walk_end : (k : ℕ) (f : Set) (i n : ℕ) → i + k ≡ n → n ≤ next k f i → members k f i ≡ []
walk_end zero f i n e l = unfold members in refl
walk_end (suc k) f i n e l =
    either (f i) (λ t. let r : next (suc k) f i ≡ i = next_in k f i t in absurd (omega arith))
    (λ t. let r : next (suc k) f i ≡ next k f (suc i) = next_out k f i t in members_out k f i t ∙ walk_end k f (suc i) n (omega arith) (omega arith))

-- the walk has as many stops as there are members
pub members_count : (k : ℕ) (f : Set) (i : ℕ) → length (members k f i) ≡ count k (λ j. f (i + j))
members_count zero f i = unfold members count in refl
members_count (suc k) f i =
    let g : Set = λ j. f (i + j) in
    let here : f (i + 0) ≡ f i = ap f (add-zero i) in
    let front : count (suc k) g ≡ count 1 g + count k (λ j. g (1 + j)) = ap (λ (m : ℕ). count m g) (sym (one-add k)) ∙ count_add 1 k g in
    let rest : count k (λ j. g (1 + j)) ≡ length (members k f (suc i)) =
    count_same k (λ j. g (1 + j)) (λ j. f (suc i + j)) (λ j l. ap f (moved i j)) ∙ sym (members_count k f (suc i))
    in
    let none : count 0 g ≡ 0 = unfold count in refl in
    either (f i) (λ t. omega (arith, ap length (members_in k f i t), count_in 0 g (here ∙ t)))
    (λ t. omega (arith, ap length (members_out k f i t), count_out 0 g (here ∙ t)))
  where
    moved : (i j : ℕ) → i + (1 + j) ≡ suc i + j
    moved i j = omega arith

-- xs are the members of f from i on and below n: each is one, they rise, and each is there
pub record Walked (f : Set) (i n : ℕ) (xs : List ℕ) : Type 0 where
  pub stop : (j : ℕ) → j < length xs → (i ≤ get_or xs j 0) × (get_or xs j 0 < n) × (f (get_or xs j 0) ≡ true)
  pub rising : (j l : ℕ) → j < l → l < length xs → get_or xs j 0 < get_or xs l 0
  pub has : (a : ℕ) → i ≤ a → a < n → f a ≡ true → (j : ℕ) × (j < length xs) × (get_or xs j 0 ≡ a)

-- one number more in front, which is a member, or not
walked_in : (f : Set) (i n : ℕ) (xs : List ℕ) → i < n → f i ≡ true → Walked f (suc i) n xs → Walked f i n (i ∷ xs)
walked_in f i n xs b e w = record { stop = stop; rising = rising; has = has }
  where
    stop : (j : ℕ) → j < length (i ∷ xs) → (i ≤ get_or (i ∷ xs) j 0) × (get_or (i ∷ xs) j 0 < n) × (f (get_or (i ∷ xs) j 0) ≡ true)
    stop zero l = (omega arith, b, e)
    stop (suc j) l = let s = w.stop j (omega arith) in (omega (arith, s.0), s.1, s.2)

    rising : (j l : ℕ) → j < l → l < length (i ∷ xs) → get_or (i ∷ xs) j 0 < get_or (i ∷ xs) l 0
    rising zero zero h l = absurd (omega arith)
    rising (suc j) zero h l = absurd (omega arith)
    rising zero (suc m) h l = (w.stop m (omega arith)).0
    rising (suc j) (suc m) h l = w.rising j m (omega arith) (omega arith)

    has : (a : ℕ) → i ≤ a → a < n → f a ≡ true → (j : ℕ) × (j < length (i ∷ xs)) × (get_or (i ∷ xs) j 0 ≡ a)
    has a l m t =
        either (eqb i a) (λ q. (zero, omega arith, eqb-true i a q))
        (λ q.
        let ne : i ≡ a → ⊥ = eqb-false i a q in
        let r = w.has a (omega (arith, ne)) m t in
        (suc r.0, omega (arith, r.1), r.2))

walked_out : (f : Set) (i n : ℕ) (xs : List ℕ) → f i ≡ false → Walked f (suc i) n xs → Walked f i n xs
walked_out f i n xs e w = record {
  stop = λ j l. let s = w.stop j l in (omega (arith, s.0), s.1, s.2);
  rising = w.rising;
  has = λ a l m t.
      either (eqb i a) (λ q. clash t (ap f (sym (eqb-true i a q)) ∙ e))
      (λ q. let ne : i ≡ a → ⊥ = eqb-false i a q in w.has a (omega (arith, ne)) m t);
}

-- so are the members
pub walked : (k : ℕ) (f : Set) (i n : ℕ) → i + k ≡ n → Walked f i n (members k f i)
walked zero f i n h = unfold members in record {
  stop = λ j l. absurd (omega arith);
  rising = λ j l b m. absurd (omega arith);
  has = λ a l m t. absurd (omega arith);
}
walked (suc k) f i n h =
    let xs : List ℕ = members k f (suc i) in
    let w : Walked f (suc i) n xs = walked k f (suc i) n (omega arith) in
    either (f i)
    (λ e. subst (Walked f i n) (sym (members_in k f i e)) (walked_in f i n xs (omega arith) e w))
    (λ e. subst (Walked f i n) (sym (members_out k f i e)) (walked_out f i n xs e w))

-- a step of a loop to n stays within it and never goes back
pub walk_range : (n i r : ℕ) (f : Set) → i ≤ n → r ≡ next (n - i) f i → (i ≤ r) × (r ≤ n)
walk_range n i r f l e = let s = next_spec (n - i) f i in (omega (arith, s.2), omega (arith, s.3))

-- the members of f below n are all below i exactly where there is none from i on
pub next_within : (n i : ℕ) (f : Set) → i ≤ n → eqb (next (n - i) f i) n ≡ within n f (λ k. ltb k i)
next_within n i f l =
    let s = next_spec (n - i) f i in
    let r : ℕ = next (n - i) f i in
    iff (eqb r n) (within n f (λ k. ltb k i))
    (λ e.
    let q : r ≡ n = eqb-true r n e in
    within_make n f (λ k. ltb k i)
    (λ k b t. either (ltb k i) (λ u. u) (λ u. clash t (s.0 k (ltb-false k i u) (omega arith)))))
    (λ e.
    either (eqb r n) (λ u. u)
    (λ u.
    let ne : r ≡ n → ⊥ = eqb-false r n u in
    let b : r < n = omega (arith, s.3, ne) in
    let c : r < i = ltb-true r i (within_at n f (λ k. ltb k i) e r b (s.1 (omega arith))) in
    absurd (omega (arith, s.2))))
