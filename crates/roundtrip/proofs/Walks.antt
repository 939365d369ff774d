-- The numbers of a book's rules, as written lines have them, are met in order: each is one met before, or the next; in the end all are met.
-- Assumes nothing.
use mathlib.Core.Path.{◌≡◌, refl, sym, ap, subst, ◌∙◌}
use mathlib.Core.Bool.{true, false}
use mathlib.Core.List.{List, [], ◌∷◌, ◌++◌, map}
use Prim.Native.Nat.{ℕ, zero, suc, ◌+◌, ◌≤◌, ◌<◌, min, max}
use native.Mathlib.Omega.{arith}
use lib.Dec.{eqb, leb, ltb}
use lib.ListN.{length, get_or, length-append}
use borrow.Author.Tests.{le-leb, eqb-true, eqb-false, ltb-true, ltb-false}
use Rattle.limits.specs.Book.{names}
use Rattle.sets.specs.Set.{Set, members}
use Rattle.sets.proofs.Logic.{either, clash, and_left, and_right, and_make, pick_true, pick_false}
use Rattle.grammar.specs.Bytes.{Bytes}
use Rattle.grammar.specs.Grammar.{Clause}
use Rattle.tables.specs.Numbering.{place, meet, meet_all, standing, names_of, places, numbered}
use Rattle.tables.specs.Writing.{numbers_of, numbers_in, orderly, met_in}
use Rattle.tables.proofs.Numbering.{Distinct, by_place, place_new, meet_known, meet_new, meet_met, meets_le, meets_keep, meets_met, meets_from}
use Rattle.tables.proofs.Numbering.{distinct_meet, distinct_meets, meets_append, places_same, places_below, places_has}

-- the numbers xs, after `met`, are met in order, and `top` in the end
abbrev pub Met : ℕ → List ℕ → ℕ → Type 0
Met met xs top = (orderly met xs ≡ true) × (met_in met xs ≡ top)

-- no number
met_none : (met : ℕ) → Met met [] met
unfolding orderly met_in
met_none met = (refl, refl)

-- one number more in front
met_one : (met a : ℕ) (xs : List ℕ) (top : ℕ) → a ≤ met → Met (max met (suc a)) xs top → Met met (a ∷ xs) top
unfolding orderly met_in
met_one met a xs top l h = (and_make (le-leb a met l) h.0, h.1)

-- one run of numbers after another
met_append : (met : ℕ) (xs : List ℕ) (mid : ℕ) (ys : List ℕ) (top : ℕ) → Met met xs mid → Met mid ys top → Met met (xs ++ ys) top
unfolding orderly met_in
met_append met [] mid ys top h g = subst (λ (m : ℕ). Met m ys top) (sym h.1) g
met_append met (a ∷ xs) mid ys top h g =
    let c : leb a met ≡ true = and_left (leb a met) (orderly (max met (suc a)) xs) h.0 in
    let rest : Met (max met (suc a)) (xs ++ ys) top =
    met_append (max met (suc a)) xs mid ys top (and_right (leb a met) (orderly (max met (suc a)) xs) h.0, h.1) g
    in
    (and_make c rest.0, rest.1)

-- a set walked by rising number: it has every number from those met up to `top`, and none past it
walk : (k : ℕ) (f : Set) (i met top : ℕ) → met ≤ top → top ≤ i + k → min i top ≤ met
    → ((j : ℕ) → met ≤ j → j < top → f j ≡ true) → ((j : ℕ) → f j ≡ true → j < top) → Met met (members k f i) top
unfolding members
walk zero f i met top h g l all below =
    let e : met ≡ top = omega arith in
    subst (Met met []) e (met_none met)
walk (suc k) f i met top h g l all below =
    either (f i)
    (λ t.
    let b : i < top = below i t in
    subst (λ (xs : List ℕ). Met met xs top) (sym (pick_true (i ∷ members k f (suc i)) (members k f (suc i)) t))
    (met_one met i (members k f (suc i)) top (omega arith)
    (walk k f (suc i) (max met (suc i)) top (omega arith) (omega arith) (omega arith) (λ j p q. all j (omega arith) q) below)))
    (λ t.
    let n : min (suc i) top ≤ met = past t in
    subst (λ (xs : List ℕ). Met met xs top) (sym (pick_false (i ∷ members k f (suc i)) (members k f (suc i)) t))
    (walk k f (suc i) met top h (omega arith) n all below))
  where
    past : f i ≡ false → min (suc i) top ≤ met
    past t =
        either (eqb i met)
        (λ e.
        let q : i ≡ met = eqb-true i met e in
        either (ltb met top) (λ b. clash (all i (omega arith) (omega (arith, ltb-true met top b))) t)
        (λ b. omega (arith, ltb-false met top b)))
        (λ e. let q : i ≡ met → ⊥ = eqb-false i met e in omega arith)

-- a name met is known, or the next
head_met : (ms : List Bytes) (x : Bytes) → (place (meet ms x) x ≤ length ms) × (max (length ms) (suc (place (meet ms x) x)) ≡ length (meet ms x))
head_met ms x =
    by_place ms x
    (λ l. subst (λ (ns : List Bytes). (place ns x ≤ length ms) × (max (length ms) (suc (place ns x)) ≡ length ns)) (sym (meet_known ms x l))
    (omega arith, omega arith))
    (λ q.
    let p : place (ms ++ (x ∷ [])) x ≡ length ms = place_new ms x q in
    let k : length (ms ++ (x ∷ [])) ≡ length ms + 1 = length-append ms (x ∷ []) in
    subst (λ (ns : List Bytes). (place ns x ≤ length ms) × (max (length ms) (suc (place ns x)) ≡ length ns)) (sym (meet_new ms x q))
    (omega arith, omega arith))

-- the numbers of a body, after the names ms
body_met : (ms xs : List Bytes) → Distinct ms → length (meet_all ms xs) ≤ names
    → Met (length ms) (members names (places (meet_all ms xs) xs) 0) (length (meet_all ms xs))
body_met ms xs d fits =
    let ns : List Bytes = meet_all ms xs in
    walk names (places ns xs) 0 (length ms) (length ns) (meets_le ms xs) (omega arith) (omega arith)
    (λ j l m. subst (λ (k : ℕ). places ns xs k ≡ true) (distinct_meets ms xs d j m) (places_has ns xs (get_or ns j []) (meets_from ms xs j l m)))
    (places_below ns xs (meets_met ms xs))

-- the numbers of clauses, after the names ms
clauses_met : (ms : List Bytes) (cs : List Clause) (ns : List Bytes) → meet_all ms (standing cs) ≡ ns → Distinct ms → length ns ≤ names
    → Met (length ms) (numbers_in (map (numbered ns) cs)) (length ns)
unfolding standing numbers_in numbers_of numbered meet_all
clauses_met ms [] ns e d fits = subst (λ (k : List Bytes). Met (length ms) [] (length k)) e (met_none (length ms))
clauses_met ms (c ∷ cs) ns e d fits =
    let m1 : List Bytes = meet ms c.head in
    let m2 : List Bytes = meet_all m1 c.body in
    let d1 : Distinct m1 = distinct_meet ms c.head d in
    let q : meet_all m2 (standing cs) ≡ ns = sym (meets_append m1 c.body (standing cs)) ∙ e in
    let f2 : length m2 ≤ names = omega (arith, meets_le m2 (standing cs), ap length q) in
    let keep : (x : Bytes) → place m2 x < length m2 → place ns x ≡ place m2 x =
    λ x l. ap (λ (k : List Bytes). place k x) (sym q) ∙ meets_keep m2 (standing cs) x l
    in
    let h : place ns c.head ≡ place m1 c.head =
    ap (λ (k : List Bytes). place k c.head) (sym e) ∙ meets_keep m1 (c.body ++ standing cs) c.head (meet_met ms c.head)
    in
    let b : places ns c.body ≡ places m2 c.body =
    places_same m2 ns c.body (λ x m. keep x (meets_met m1 c.body x m))
    in
    let hm = head_met ms c.head in
    subst (λ (a : ℕ). Met (length ms) ((a ∷ members names (places ns c.body) 0) ++ numbers_in (map (numbered ns) cs)) (length ns)) (sym h)
    (subst (λ (f : Set). Met (length ms) ((place m1 c.head ∷ members names f 0) ++ numbers_in (map (numbered ns) cs)) (length ns)) (sym b)
    (met_append (length ms) (place m1 c.head ∷ members names (places m2 c.body) 0) (length m2) (numbers_in (map (numbered ns) cs)) (length ns)
    (met_one (length ms) (place m1 c.head) (members names (places m2 c.body) 0) (length m2) hm.0
    (subst (λ (k : ℕ). Met k (members names (places m2 c.body) 0) (length m2)) (sym hm.1) (body_met m1 c.body d1 f2)))
    (clauses_met m2 cs ns q (distinct_meets m1 c.body d1) fits)))

-- the numbers of a book that fits
pub book_met : (cs : List Clause) → length (names_of cs) ≤ names → Met 0 (numbers_in (map (numbered (names_of cs)) cs)) (length (names_of cs))
unfolding names_of
book_met cs fits = clauses_met [] cs (meet_all [] (standing cs)) refl (λ a l. absurd (omega arith)) fits
