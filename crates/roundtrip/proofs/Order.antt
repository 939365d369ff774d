-- Numbering by first appearance: tables whose numbers are met in order have their names met in order, and their rules by those names are themselves.
-- Assumes nothing.
use mathlib.Core.Path.{◌≡◌, refl, sym, ap, ap₂, ◌∙◌, fun_ext}
use mathlib.Core.Bool.{Bool, true, false, ◌&&◌, ◌||◌}
use mathlib.Core.List.{List, [], ◌∷◌, ◌++◌, map}
use Prim.Native.Nat.{ℕ, zero, suc, ◌+◌, ◌≤◌, ◌<◌, min, max}
use native.Mathlib.Omega.{arith}
use lib.Dec.{eqb, leb, ltb}
use lib.ListN.{length, get_or, take, length-take}
use lib.Seq.{take-suc, take-length}
use borrow.Author.Tests.{ltb-true, ltb-false, leb-true, eqb-true, eqb-false}
use Rattle.limits.specs.Book.{names}
use Rattle.sets.specs.Set.{Set, pick, members}
use Rattle.sets.proofs.Logic.{either, clash, not-true, and_left, and_right, and_make, or_left, or_right}
use Rattle.program.specs.Program.{Rule}
use Rattle.grammar.specs.Bytes.{Bytes}
use Rattle.tables.specs.Numbering.{same_bytes, place, meet, meet_all, standing, names_of, places, numbered}
use Rattle.tables.proofs.Numbering.{Distinct, place_here, place_on, meet_known, meet_new}
use Rattle.tables.proofs.Encoding.{Low}
use Rattle.tables.specs.Writing.{numbers_of, numbers_in, orderly, met_in}
use Rattle.roundtrip.proofs.Written.{spelled, clause_of, Bounded, RulesBelow}

-- what is met is met still
met_le : (met : ℕ) (xs : List ℕ) → met ≤ met_in met xs
unfolding met_in
met_le met [] = omega arith
met_le met (a ∷ xs) = let h : max met (suc a) ≤ met_in (max met (suc a)) xs = met_le (max met (suc a)) xs in omega arith

-- every number is below what is met in the end
pub met_bounds : (met : ℕ) (xs : List ℕ) → Bounded (met_in met xs) xs
unfolding met_in Bounded
met_bounds met [] = tt
met_bounds met (a ∷ xs) =
    let h : max met (suc a) ≤ met_in (max met (suc a)) xs = met_le (max met (suc a)) xs in
    (omega arith, met_bounds (max met (suc a)) xs)

-- the first part of numbers that are below n
bounded_front : (n : ℕ) (xs ys : List ℕ) → Bounded n (xs ++ ys) → Bounded n xs
unfolding Bounded
bounded_front n [] ys h = tt
bounded_front n (a ∷ xs) ys h = (h.0, bounded_front n xs ys h.1)

-- and the second
bounded_back : (n : ℕ) (xs ys : List ℕ) → Bounded n (xs ++ ys) → Bounded n ys
unfolding Bounded
bounded_back n [] ys h = h
bounded_back n (a ∷ xs) ys h = bounded_back n xs ys h.1

-- so the rules whose numbers are below n are
pub rules_below : (n : ℕ) (rs : List (Rule ℕ)) → Bounded n (numbers_in rs) → RulesBelow n rs
unfolding Bounded RulesBelow numbers_in numbers_of
rules_below n [] h = tt
rules_below n (r ∷ rs) h =
    let xs : List ℕ = members names r.body 0 in
    (h.0, bounded_front n xs (numbers_in rs) h.1, rules_below n rs (bounded_back n xs (numbers_in rs) h.1))

-- the place among the first k names
place_take : (k : ℕ) (ns : List Bytes) (x : Bytes) → k ≤ length ns → place (take k ns) x ≡ min k (place ns x)
unfolding place
place_take zero ns x l = omega arith
place_take (suc k) [] x l = absurd (omega arith)
place_take (suc k) (n ∷ ns) x l =
    let h : place (take k ns) x ≡ min k (place ns x) = place_take k ns x (omega arith) in
    either (same_bytes n x) (λ e. omega (arith, place_here n (take k ns) x e, place_here n ns x e))
    (λ e. omega (arith, place_on n (take k ns) x e, place_on n ns x e))

-- names of two lists of numbers
spelled_append : (ns : List Bytes) (xs ys : List ℕ) → spelled ns (xs ++ ys) ≡ spelled ns xs ++ spelled ns ys
spelled_append ns [] ys = refl
spelled_append ns (a ∷ xs) ys = ap {B = List Bytes} (λ l. get_or ns a [] ∷ l) (spelled_append ns xs ys)

-- the names as they stand in the clauses are those of the numbers as they stand in the rules
standing_is : (ns : List Bytes) (rs : List (Rule ℕ)) → standing (map (clause_of ns) rs) ≡ spelled ns (numbers_in rs)
unfolding standing numbers_in numbers_of clause_of
standing_is ns [] = refl
standing_is ns (r ∷ rs) =
    let xs : List ℕ = members names r.body 0 in
    ap {B = List Bytes} (λ l. get_or ns r.head [] ∷ (spelled ns xs ++ l)) (standing_is ns rs)
    ∙ ap {B = List Bytes} (λ l. get_or ns r.head [] ∷ l) (sym (spelled_append ns xs (numbers_in rs)))

module _ (ns : List Bytes) (distinct : Distinct ns) where
  -- the next name is added to those met, another changes nothing
  meet_one : (met a : ℕ) → a ≤ met → met ≤ length ns → a < length ns → meet (take met ns) (get_or ns a []) ≡ take (max met (suc a)) ns
  meet_one met a l m b =
      let p : place (take met ns) (get_or ns a []) ≡ min met (place ns (get_or ns a [])) = place_take met ns (get_or ns a []) m in
      let q : place ns (get_or ns a []) ≡ a = distinct a b in
      let k : length (take met ns) ≡ min met (length ns) = length-take met ns in
      either (ltb a met)
      (λ e.
      let s : a < met = ltb-true a met e in
      let t : met ≡ max met (suc a) = omega arith in
      meet_known (take met ns) (get_or ns a []) (omega arith)
      ∙ ap (λ (n : ℕ). take n ns) t)
      (λ e.
      let s : met ≤ a = ltb-false a met e in
      let i : a ≡ met = omega arith in
      let t : suc met ≡ max met (suc a) = omega arith in
      meet_new (take met ns) (get_or ns a []) (omega arith)
      ∙ ap (λ (n : ℕ). take met ns ++ (get_or ns n [] ∷ [])) i ∙ sym (take-suc ns met [] (omega arith)) ∙ ap (λ (n : ℕ). take n ns) t)

  -- names met in order are the first names
  meet_order : (met : ℕ) (xs : List ℕ) → orderly met xs ≡ true → met_in met xs ≤ length ns → meet_all (take met ns) (spelled ns xs) ≡ take (met_in met xs) ns
  unfolding orderly met_in meet_all
  meet_order met [] o l = refl
  meet_order met (a ∷ xs) o l =
      let h : max met (suc a) ≤ met_in (max met (suc a)) xs = met_le (max met (suc a)) xs in
      let c : a ≤ met = leb-true a met (and_left (leb a met) (orderly (max met (suc a)) xs) o) in
      ap (λ (l : List Bytes). meet_all l (spelled ns xs)) (meet_one met a c (omega arith) (omega arith))
      ∙ meet_order (max met (suc a)) xs (and_right (leb a met) (orderly (max met (suc a)) xs) o) l

  -- so the names of the clauses are the names they were written from, in order
  pub names_again : (rs : List (Rule ℕ)) → orderly 0 (numbers_in rs) ≡ true → met_in 0 (numbers_in rs) ≡ length ns → names_of (map (clause_of ns) rs) ≡ ns
  unfolding names_of
  names_again rs o e =
      ap (meet_all []) (standing_is ns rs) ∙ meet_order 0 (numbers_in rs) o (omega arith) ∙ ap (λ (n : ℕ). take n ns) e ∙ take-length ns

  -- one number more in front, where it is a member
  places_step : (b : Bool) (i : ℕ) (xs : List ℕ) (a : ℕ) → Bounded (length ns) (pick b (i ∷ xs) xs)
      → (places ns (spelled ns (pick b (i ∷ xs) xs)) a ≡ (b && eqb i a) || places ns (spelled ns xs) a) × Bounded (length ns) xs
  unfolding pick places Bounded
  places_step true i xs a h = (ap (λ (n : ℕ). eqb n a || places ns (spelled ns xs) a) (distinct i h.0), h.1)
  places_step false i xs a h = (refl, h)

  -- the names of a set's members have no number but the members
  places_none : (k : ℕ) (f : Set) (i a : ℕ)
      → Bounded (length ns) (members k f i) → f a ≡ false → places ns (spelled ns (members k f i)) a ≡ false
  unfolding members places
  places_none zero f i a h e = refl
  places_none (suc k) f i a h e =
      let s = places_step (f i) i (members k f (suc i)) a h in
      let here : f i && eqb i a ≡ false =
      not-true (f i && eqb i a)
      (λ t. clash (sym (ap f (eqb-true i a (and_right (f i) (eqb i a) t))) ∙ and_left (f i) (eqb i a) t) e)
      in
      s.0 ∙ ap₂ (λ (x y : Bool). x || y) here (places_none k f (suc i) a s.1 e)

  -- they have each of them
  places_all : (k : ℕ) (f : Set) (i a : ℕ)
      → Bounded (length ns) (members k f i) → f a ≡ true → i ≤ a → a < i + k → places ns (spelled ns (members k f i)) a ≡ true
  unfolding members places
  places_all zero f i a h e l m = absurd (omega arith)
  places_all (suc k) f i a h e l m =
      let s = places_step (f i) i (members k f (suc i)) a h in
      either (eqb i a)
      (λ t. s.0 ∙ or_left (places ns (spelled ns (members k f (suc i))) a) (and_make (ap f (eqb-true i a t) ∙ e) t))
      (λ t.
      let d : i ≡ a → ⊥ = eqb-false i a t in
      s.0 ∙ or_right (f i && eqb i a) (places_all k f (suc i) a s.1 e (omega arith) (omega arith)))

  -- a rule by names and numbered again is itself
  rule_again : (r : Rule ℕ) → r.head < length ns → Bounded (length ns) (members names r.body 0)
      → ((a : ℕ) → names ≤ a → r.body a ≡ false) → numbered ns (clause_of ns r) ≡ r
  unfolding numbered clause_of
  rule_again r l b past =
      ap₂ (λ (h : ℕ) (f : Set). record { head = h; body = f }) (distinct r.head l)
      (fun_ext (λ a.
      either (r.body a)
      (λ e.
      let m : a < names = either (ltb a names) (λ t. ltb-true a names t) (λ t. clash e (past a (ltb-false a names t))) in
      places_all names r.body 0 a b e (omega arith) m ∙ sym e)
      (λ e. places_none names r.body 0 a b e ∙ sym e)))

  -- and so are all
  pub rules_again : (rs : List (Rule ℕ)) → RulesBelow (length ns) rs → Low rs → map (numbered ns) (map (clause_of ns) rs) ≡ rs
  unfolding RulesBelow
  rules_again [] h w = refl
  rules_again (r ∷ rs) h w =
      ap₂ (λ (x : Rule ℕ) (l : List (Rule ℕ)). x ∷ l) (rule_again r h.0 h.1 (λ a m. w zero a (omega arith) m))
      (rules_again rs h.2 (λ j a l m. w (suc j) a (omega arith) m))
