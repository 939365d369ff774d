-- The atoms of a row from a place on: the first is the next one, the others come after it, and each is an atom of the row. What a loop over
-- them has passed and what is left are all of them.
-- Assumes nothing.
use Rattle.std.proofs.Common.{Bool, false, not, Option, Some, None, is_some, MatchOption, ◌≡◌, refl, sym, ap, ◌∙◌, true, ℕ, zero, suc, ◌+◌, ◌-◌, ◌*◌, ◌≤◌, ◌<◌, List, [], ◌∷◌, ◌++◌, length, get_or, arith, length-append}
use native.Mathlib.Numerals.{add-one}
use Rattle.std.specs.Iterator.{Yields, YieldsFirst}
use Rattle.std.specs.List.{take_while}
use Rattle.std.proofs.lemmas.List.Sums.{take_while-cons}
use Rattle.std.proofs.Common.{cond, true, false}
use Rattle.std.proofs.Math.Seq.{get_or-append_seam}
use lib.Dec.{ltb}
use borrow.Author.Tests.{ltb-true, ltb-false, eq-eqb, ne_eqb}
use Rattle.std.proofs.lemmas.Bool.{le-ltb, lt-ltb}
use Rattle.std.proofs.Math.Nat.{suc-add, zero-add}
use Rattle.limits.specs.Book.{word_bits}
use Rattle.sets.specs.Set.{Set, pick, within, next, members}
use Rattle.sets.proofs.Logic.{either}
use Rattle.sets.proofs.Walk.{next_spec, next_within, walk_on, walk_end, walked}
use Rattle.words.specs.Row.{row}
use Rattle.rows.specs.declared.members.Members.{Members}
use Rattle.rows.specs.Members.{atoms_from, left}

-- a row, and a place within it or at its end
module _ (ws : List ℕ) (i : ℕ) (l : i ≤ length ws * word_bits) where
  abbrev end : ℕ
  end = length ws * word_bits

  whole : i + (end - i) ≡ end
  whole = omega arith

  -- none is left where the next one would be the end
  pub atoms_end : next (end - i) (row ws) i ≡ end → atoms_from ws i ≡ []
  unfolding atoms_from
  atoms_end e = walk_end (end - i) (row ws) i end whole (omega arith)

  -- else the next one is the first
  pub atoms_next : (a : ℕ) → a ≡ next (end - i) (row ws) i → a < end → atoms_from ws i ≡ a ∷ atoms_from ws (a + 1)
  unfolding atoms_from
  atoms_next a e m =
      walk_on (end - i) (row ws) i end whole (omega arith)
      ∙ ap (λ (x : ℕ). x ∷ members (end - suc x) (row ws) (suc x)) (sym e)
      ∙ ap (λ (x : ℕ). a ∷ members (end - x) (row ws) x) (sym (add-one a))

  -- no atom is at or past place i exactly where there is no next one
  pub ends_is : (r : Option ℕ) → MatchOption r (next (end - i) (row ws) i ≡ end) (λ p. (p ≡ next (end - i) (row ws) i) × (p < end))
      → (b : Bool) → is_some r ≡ not b → b ≡ within end (row ws) (λ k. ltb k i)
  ends_is None e true q = sym (eq-eqb (next (end - i) (row ws) i) end e) ∙ next_within end i (row ws) l
  ends_is None e false q = cc
  ends_is (Some p) e true q = cc
  ends_is (Some p) e false q =
      sym (ne_eqb (next (end - i) (row ws) i) end (λ (q : next (end - i) (row ws) i ≡ end). omega arith)) ∙ next_within end i (row ws) l

  -- the next one is within the row, or its end
  pub atoms_bound : next (end - i) (row ws) i ≤ end
  atoms_bound = let s = next_spec (end - i) (row ws) i in omega (arith, s.3)

  -- an atom among those from place i on
  pub atoms_at : (xs ys : List ℕ) (a : ℕ) → atoms_from ws i ≡ xs ++ (a ∷ ys) → (i ≤ a) × (a < end) × (row ws a ≡ true)
  unfolding atoms_from
  atoms_at xs ys a e =
      let s = (walked (end - i) (row ws) i end whole).stop (length xs) (rw e (simp length-append (omega arith))) in
      let at : get_or (atoms_from ws i) (length xs) 0 ≡ a = rw e (get_or-append_seam xs a ys 0) in
      rw at at s

  -- so the first one is the next, and the others come after it
  pub atoms_first : (a : ℕ) (xs : List ℕ) → atoms_from ws i ≡ a ∷ xs
      → (a ≡ next (end - i) (row ws) i) × (i ≤ a) × (a < end) × (row ws a ≡ true) × (xs ≡ atoms_from ws (a + 1))
  atoms_first a xs e =
      let p : ℕ = next (end - i) (row ws) i in
      let at = atoms_at [] xs a e in
      either (ltb p end)
      (λ t.
      let f : atoms_from ws i ≡ p ∷ atoms_from ws (p + 1) = atoms_next p refl (ltb-true p end t) in
      let q : a ≡ p = cc in
      (q, at.0, at.1, at.2, cc))
      (λ t.
      let b : p ≤ end = atoms_bound in
      let f : atoms_from ws i ≡ [] = atoms_end (omega (arith, ltb-false p end t)) in
      cc)

-- what a loop has passed and what is left are all
pub passed : (s t : Members) (xs : List ℕ) → Yields (YieldsFirst left) s xs t → left s ≡ xs ++ left t
passed s t [] y = ap left y
passed s t (x ∷ xs) y = y.1 ∙ ap (λ (ys : List ℕ). x ∷ ys) (passed y.0 t xs y.2)

-- an atom that a loop comes to, which began with those from place i on
pub turn : (ws : List ℕ) (i : ℕ) → i ≤ length ws * word_bits → (s t : Members) (xs : List ℕ) → Yields (YieldsFirst left) s xs t
    → left s ≡ atoms_from ws i → {a : ℕ} {ys : List ℕ} → left t ≡ a ∷ ys → (i ≤ a) × (a < length ws * word_bits) × (row ws a ≡ true)
turn ws i l s t xs y e {a} {ys} f = atoms_at ws i l xs ys a (sym e ∙ passed s t xs y ∙ ap (λ (zs : List ℕ). xs ++ zs) f)

-- no member from i on is below n
none_below : (m : ℕ) (f : Set) (i n : ℕ) → n ≤ i → take_while (λ a. ltb a n) (members m f i) ≡ []
unfolding members pick
none_below zero f i n l = refl
none_below (suc m) f i n l =
    elim (f i) as (λ b. take_while (λ a. ltb a n) (pick b (i ∷ members m f (suc i)) (members m f (suc i))) ≡ []) [
      | true ↦ take_while-cons (λ a. ltb a n) i (members m f (suc i)) ∙ ap (λ b. cond b (i ∷ take_while (λ a. ltb a n) (members m f (suc i))) []) (le-ltb i n l)
      | false ↦ none_below m f (suc i) n (omega arith)
    ]

-- the members from i on that come before the first past n are those below n
members_below : (k m : ℕ) (f : Set) (i n : ℕ) → i + k ≡ n → take_while (λ a. ltb a n) (members (k + m) f i) ≡ members k f i
unfolding members pick
members_below zero m f i n e = rw (zero-add m) (none_below m f i n (omega arith))
members_below (suc k) m f i n e =
    rw (suc-add k m)
    (elim (f i) as (λ b. take_while (λ a. ltb a n) (pick b (i ∷ members (k + m) f (suc i)) (members (k + m) f (suc i)))
    ≡ pick b (i ∷ members k f (suc i)) (members k f (suc i))) [
      | true ↦ take_while-cons (λ a. ltb a n) i (members (k + m) f (suc i))
          ∙ ap (λ b. cond b (i ∷ take_while (λ a. ltb a n) (members (k + m) f (suc i))) []) (lt-ltb i n (omega arith))
          ∙ ap (λ (xs : List ℕ). i ∷ xs) (members_below k m f (suc i) n (omega arith))
      | false ↦ members_below k m f (suc i) n (omega arith)
    ])

-- of the atoms from place i on those below n
pub atoms_below : (ws : List ℕ) (i n : ℕ) → i ≤ n → n ≤ length ws * word_bits
    → take_while (λ a. ltb a n) (atoms_from ws i) ≡ members (n - i) (row ws) i
unfolding atoms_from
atoms_below ws i n l m =
    let e : length ws * word_bits - i ≡ (n - i) + (length ws * word_bits - n) = omega arith in
    ap (λ (k : ℕ). take_while (λ a. ltb a n) (members k (row ws) i)) e
    ∙ members_below (n - i) (length ws * word_bits - n) (row ws) i n (omega arith)

-- the atoms of a row that ends at n
pub atoms_members : (ws : List ℕ) (i n : ℕ) → length ws * word_bits ≡ n → atoms_from ws i ≡ members (n - i) (row ws) i
unfolding atoms_from
atoms_members ws i n e = ap (λ (k : ℕ). members (k - i) (row ws) i) e
