-- Numbers met in order, one at a time and rule by rule.
-- Assumes nothing.
use mathlib.Core.Path.{◌≡◌, refl, sym, ap, ap₂, ◌∙◌}
use mathlib.Core.List.{List, [], ◌∷◌, ◌++◌}
use Prim.Native.Nat.{ℕ, suc, ◌+◌, ◌-◌, ◌*◌, ◌≤◌, ◌<◌, max}
use native.Mathlib.Numerals.{add-one}
use native.Mathlib.Omega.{arith}
use Rattle.std.proofs.Common.{Option, Some, None}
use Rattle.std.specs.Option.{option_map, unwrap_or}
use lib.Dec.{leb}
use borrow.Author.Tests.{le-leb, lt-leb, leb-true, leb-false}
use lib.ListN.{length, get_or, length-append}
use Rattle.std.specs.Iterator.{Yields, YieldsFirst}
use Rattle.std.proofs.Math.Seq.{get_or-append_seam}
use Rattle.limits.specs.Book.{names, body_words, word_bits}
use Rattle.sets.specs.Set.{Set, pick, members}
use Rattle.sets.proofs.Walk.{walked}
use Rattle.sets.proofs.Logic.{either, pick_true, pick_false}
use Rattle.areas.specs.Area.{part}
use Rattle.words.specs.Row.{row}
use Rattle.rows.specs.declared.members.Members.{Members}
use Rattle.rows.specs.Members.{atoms_from, left}
use Rattle.rows.proofs.Atoms.{passed}
use Rattle.tables.specs.Areas.{RuleTables, rule_at, rules_from, rules_in}
use Rattle.tables.specs.Writing.{orderly, met_in, numbers_of, numbers_in}
use Rattle.tablecheck.specs.Order.{met_after, counted}

-- a number that is in order
after_on : (met a : ℕ) (xs : List ℕ) → a ≤ met → met_after met (a ∷ xs) ≡ met_after (max met (suc a)) xs
unfolding met_after orderly met_in
after_on met a xs l = rw (le-leb a met l)

-- one that is not
after_off : (met a : ℕ) (xs : List ℕ) → met < a → met_after met (a ∷ xs) ≡ None
unfolding met_after orderly met_in pick
after_off met a xs l = rw (lt-leb a met l)

-- no more numbers
pub after_none : (met : ℕ) → met_after met [] ≡ Some met
unfolding met_after orderly met_in pick
after_none met = refl

-- numbers out of order stay so
pub after_bad : (met : ℕ) (xs ys : List ℕ) → met_after met xs ≡ None → met_after met (xs ++ ys) ≡ None
after_bad met [] ys e = cc (after_none met)
after_bad met (a ∷ xs) ys e =
    either (leb a met)
    (λ t. let l : a ≤ met = leb-true a met t in
    after_on met a (xs ++ ys) l ∙ after_bad (max met (suc a)) xs ys (sym (after_on met a xs l) ∙ e))
    (λ t. after_off met a (xs ++ ys) (leb-false a met t))

-- numbers in order, and then more
pub after_good : (met k : ℕ) (xs ys : List ℕ) → Some k ≡ met_after met xs → met_after met (xs ++ ys) ≡ met_after k ys
after_good met k [] ys e = let q : met ≡ k = cc (after_none met) in ap (λ (m : ℕ). met_after m ys) q
after_good met k (a ∷ xs) ys e =
    either (leb a met)
    (λ t. let l : a ≤ met = leb-true a met t in
    after_on met a (xs ++ ys) l ∙ after_good (max met (suc a)) k xs ys (e ∙ after_on met a xs l))
    (λ t. let q : Some k ≡ None = e ∙ after_off met a xs (leb-false a met t) in cc)

-- with 1 added, and 0 for none
pub counted_is : (met : ℕ) (xs : List ℕ) → counted met xs ≡ pick (orderly met xs) (suc (met_in met xs)) 0
unfolding met_after
counted_is met xs =
    either (orderly met xs)
    (λ t. ap (λ (o : Option ℕ). unwrap_or (option_map suc o) 0) (pick_true _ _ t) ∙ sym (pick_true _ _ t))
    (λ t. ap (λ (o : Option ℕ). unwrap_or (option_map suc o) 0) (pick_false _ _ t) ∙ sym (pick_false _ _ t))

-- the numbers of the rules from j on: those of rule j, and the rest
pub numbers_on : (tables : RuleTables) (m j : ℕ) → j < m
    → numbers_in (rules_from tables (m - j) j) ≡ numbers_of (rule_at tables j) ++ numbers_in (rules_from tables (m - (j + 1)) (j + 1))
unfolding rules_from numbers_in
numbers_on tables m j l =
    let e : m - j ≡ suc (m - (j + 1)) = omega arith in
    ap (λ (k : ℕ). numbers_in (rules_from tables k j)) e
    ∙ ap (λ (i : ℕ). numbers_of (rule_at tables j) ++ numbers_in (rules_from tables (m - (j + 1)) i)) (sym (add-one j))

-- past the last rule
pub numbers_end : (tables : RuleTables) (m j : ℕ) → m ≤ j → numbers_in (rules_from tables (m - j) j) ≡ []
unfolding rules_from numbers_in
numbers_end tables m j l = let e : m - j ≡ 0 = omega arith in ap (λ (k : ℕ). numbers_in (rules_from tables k j)) e

-- the names of rule j's body are all that a walk over its words has before it
pub body_left : (tables : RuleTables) (j : ℕ) (words : List ℕ) → length words ≡ body_words → words ≡ part (j * body_words) body_words tables.bodies
    → atoms_from words 0 ≡ members names (rule_at tables j).body 0
unfolding atoms_from rule_at
body_left tables j words l w =
    let e : length words * word_bits - 0 ≡ names = omega (arith, l) in ap₂ (λ (k : ℕ) (xs : List ℕ). members k (row xs) 0) e w

-- a number that a walk over them comes to is a name
pub body_turn : (f : Set) (s t u : Members) (xs : List ℕ) (a : ℕ) → left s ≡ members names f 0 → Yields (YieldsFirst left) s xs t
    → left t ≡ a ∷ left u → a < names
body_turn f s t u xs a e y n =
    let whole : members names f 0 ≡ xs ++ (a ∷ left u) = sym e ∙ passed s t xs y ∙ ap (λ (ys : List ℕ). xs ++ ys) n in
    let stop = (walked names f 0 names (omega arith)).stop (length xs) (rw whole (simp length-append (omega arith))) in
    let at : get_or (members names f 0) (length xs) 0 ≡ a = rw whole (get_or-append_seam xs a (left u) 0) in
    (rw at at stop).1

-- rule j, after `met` numbers: its head, and then its body
module _ (tables : RuleTables) (j met head : ℕ) (h : head ≡ get_or tables.heads j 0) where
  -- a head out of order
  pub head_off : met < head → None ≡ met_after met (numbers_of (rule_at tables j))
  unfolding numbers_of rule_at
  head_off l = sym (after_off met (get_or tables.heads j 0) (members names (row (part (j * body_words) body_words tables.bodies)) 0) (omega arith))

  -- one in order
  pub head_on : (count : ℕ) (xs : List ℕ) → head ≤ met → count ≡ max met (head + 1) → xs ≡ members names (rule_at tables j).body 0
      → met_after count xs ≡ met_after met (numbers_of (rule_at tables j))
  unfolding numbers_of rule_at
  head_on count xs l c e =
      let k : count ≡ max met (suc (get_or tables.heads j 0)) = c ∙ ap (max met) (omega arith) in
      ap₂ met_after k e
      ∙ sym (after_on met (get_or tables.heads j 0) (members names (row (part (j * body_words) body_words tables.bodies)) 0) (omega arith))

-- the numbers xs of its body, the first of them a
module _ (count a : ℕ) (xs ys : List ℕ) (e : xs ≡ a ∷ ys) where
  -- a number out of order
  pub body_off : count < a → None ≡ met_after count xs
  body_off m = sym (ap (met_after count) e ∙ after_off count a ys m)

  -- one in order
  pub body_on : (more : ℕ) → a ≤ count → more ≡ max count (a + 1) → met_after more ys ≡ met_after count xs
  body_on more m c =
      let k : more ≡ max count (suc a) = c ∙ ap (max count) (omega arith) in
      ap (λ (k : ℕ). met_after k ys) k ∙ sym (ap (met_after count) e ∙ after_on count a ys m)

-- no number is left
pub body_end : (count : ℕ) (xs : List ℕ) → xs ≡ [] → Some count ≡ met_after count xs
body_end count xs e = sym (ap (met_after count) e ∙ after_none count)

-- before the first rule
pub rules_start : (tables : RuleTables) (m : ℕ)
    → met_after 0 (numbers_in (rules_from tables (m - 0) 0)) ≡ met_after 0 (numbers_in (rules_in tables m))
rules_start tables m = let e : m - 0 ≡ m = omega arith in ap (λ (k : ℕ). met_after 0 (numbers_in (rules_from tables k 0))) e

-- the steps of a walk over one rule
pub ruleset rule_steps = (head_off, head_on, body_off, body_on, body_end)
