-- The four kinds of rows of document 01, c and h by the rules, and that a standardised program is regular.
-- Assumes nothing.
use mathlib.Core.Path.{◌≡◌, sym, ap, ◌∙◌, subst}
use mathlib.Core.Logic.{◌↔◌}
use mathlib.Core.Bool.{true, false, not}
use Prim.Native.Nat.{ℕ, ◌≤◌, ◌<◌}
use native.Mathlib.Omega.{arith}
use lib.Dec.{eqb, leb}
use borrow.Author.Tests.{eqb-true, eq-eqb, leb-true, le-leb}
use Rattle.sets.specs.Set.{Set, count, only, image}
use Rattle.sets.proofs.Logic.{either, clash, not-true, iff, of_not, pick_true, pick_false}
use Rattle.sets.proofs.Counting.{count_pos, count_find, count_same, count_tail, count_image, image_make, image_find}
use Rattle.program.specs.Program.{Program, WellFormed, size, head_at, body_at}
use Rattle.program.specs.System.{Regular, any_head, c, h}
use Rattle.program.specs.Standard.{ways, several, helper, home, has_body, counted_atoms, all_row, any_row, start_set, standard, Bears, Alone}
use Rattle.program.proofs.Homes.{home_several, home_single, several_ways, several_alike, helper_past, names_below, home_below, helper_no_head, home_one, any_make, any_find, head_make, head_find, home_no_head}

module _ (p : Program) (formed : WellFormed p) where
  abbrev n : ℕ
  n = p.names

  abbrev r : ℕ
  r = size p

  abbrev atoms : ℕ
  atoms = helper p r

  -- the home of a rule with a body is counted, and no other atom
  pub counted_home : (j : ℕ) → j < r → counted_atoms p (home p j) ≡ has_body p j
  unfolding counted_atoms
  counted_home j l =
      iff (image r (home p) (has_body p) (home p j)) (has_body p j)
      (λ e.
      let q = image_find r (home p) (has_body p) (home p j) e in
      subst (λ (k : ℕ). has_body p k ≡ true) (home_one p formed q.0 j q.1 l q.2) q.3)
      (λ e. image_make r (home p) (has_body p) j l e)

  pub start_home : (j : ℕ) → j < r → start_set p (home p j) ≡ not (has_body p j)
  unfolding start_set
  start_home j l =
      iff (image r (home p) (λ k. not (has_body p k)) (home p j)) (not (has_body p j))
      (λ e.
      let q = image_find r (home p) (λ k. not (has_body p k)) (home p j) e in
      subst (λ (k : ℕ). not (has_body p k) ≡ true) (home_one p formed q.0 j q.1 l q.2) q.3)
      (λ e. image_make r (home p) (λ k. not (has_body p k)) j l e)

  -- a rule's home bears its body
  pub bears : (j : ℕ) → j < r → Bears p j (home p j)
  unfolding all_row
  bears j l = record {
    row = λ e k.
        pick_true (image r (home p) (λ j'. body_at p j' k) (home p j)) (only (home p j) k) (counted_home j l ∙ e)
        ∙ iff (image r (home p) (λ j'. body_at p j' k) (home p j)) (body_at p j k)
        (λ t.
        let q = image_find r (home p) (λ j'. body_at p j' k) (home p j) t in
        subst (λ (x : ℕ). body_at p x k ≡ true) (home_one p formed q.0 j q.1 l q.2) q.3)
        (λ t. image_make r (home p) (λ j'. body_at p j' k) j l t);
    fact = λ e k.
        pick_false (image r (home p) (λ j'. body_at p j' k) (home p j)) (only (home p j) k) (counted_home j l ∙ e);
    start = start_home j l;
  }

  -- an atom that is no rule's home is alone
  pub alone : (i : ℕ) → ((j : ℕ) → j < r → home p j ≡ i → ⊥) → Alone p i
  unfolding all_row counted_atoms start_set
  alone i none = record {
    row = λ k.
        pick_false (image r (home p) (λ j. body_at p j k) i) (only i k)
        (not-true (counted_atoms p i) (λ t. let q = image_find r (home p) (has_body p) i t in none q.0 q.1 q.2));
    start = not-true (start_set p i) (λ t. let q = image_find r (home p) (λ j. not (has_body p j)) i t in none q.0 q.1 q.2);
  }

  -- Document 01, "name with no rule": alone, and its "any" row is empty.
  pub undefined_name : (a : ℕ) → a < n → ways p a ≡ 0 → Alone p a × ((k : ℕ) → any_row p a k ≡ false)
  unfolding ways
  undefined_name a l e =
      let none : (j : ℕ) → j < r → head_at p j ≡ a → ⊥ =
      λ j b q. let z : 0 < count r (λ k. eqb (head_at p k) a) = count_pos r j (λ k. eqb (head_at p k) a) b (eq-eqb (head_at p j) a q) in omega arith
      in (
        alone a (λ j b q.
            either (several p j) (λ s. let x : n ≤ helper p j = helper_past p j in omega (arith, sym (home_several p j s) ∙ q))
            (λ s. none j b (sym (home_single p j s) ∙ q))),
        λ k. not-true (any_row p a k) (λ t. let q = any_find p a k t in none q.0 q.1 q.3),
      )

  -- "name with one rule": it bears the rule's body, and its "any" row is empty.
  pub single_name : (a j : ℕ) → j < r → head_at p j ≡ a → ways p a ≡ 1 → Bears p j a × ((k : ℕ) → any_row p a k ≡ false)
  single_name a j l e w =
      let s : several p j ≡ false = several_ways p j a e ∙ ap (leb 2) w in (
        subst (λ (i : ℕ). Bears p j i) (home_single p j s ∙ e) (bears j l),
        λ k. not-true (any_row p a k) (λ t.
            let q = any_find p a k t in
            clash q.2 (several_alike p q.0 j (q.3 ∙ sym e) ∙ s)),
      )

  -- "name with several rules": alone, and its "any" row is its helpers.
  pub several_name : (a : ℕ) → a < n → 2 ≤ ways p a
      → Alone p a × ((k : ℕ) → (any_row p a k ≡ true) ↔ ((j : ℕ) × (j < r) × (head_at p j ≡ a) × (helper p j ≡ k)))
  several_name a l w =
      let many : (j : ℕ) → head_at p j ≡ a → several p j ≡ true =
      λ j e. several_ways p j a e ∙ le-leb 2 (ways p a) w
      in (
        alone a (λ j b q.
            either (several p j) (λ s. let x : n ≤ helper p j = helper_past p j in omega (arith, sym (home_several p j s) ∙ q))
            (λ s. clash (many j (sym (home_single p j s) ∙ q)) s)),
        λ k. (
          λ t. let q = any_find p a k t in (q.0, q.1, q.3, q.4),
          λ q.
              subst (λ (x : ℕ). any_row p a x ≡ true) q.3
              (subst (λ (x : ℕ). any_row p x (helper p q.0) ≡ true) q.2 (any_make p q.0 q.1 (many q.0 q.2))),
        ),
      )

  -- "helper": it bears its rule's body, and its "any" row is empty.
  pub helper_atom : (j : ℕ) → j < r → several p j ≡ true → Bears p j (helper p j) × ((k : ℕ) → any_row p (helper p j) k ≡ false)
  helper_atom j l s = (
    subst (λ (i : ℕ). Bears p j i) (home_several p j s) (bears j l),
    λ k. not-true (any_row p (helper p j) k) (λ t.
        let q = any_find p (helper p j) k t in
        helper_no_head p formed j q.0 q.1 (sym q.3)),
  )

  -- c is the number of rules with a body that is not empty
  pub c_rules : c (standard p) ≡ count r (has_body p)
  unfolding c counted_atoms
  c_rules = count_image atoms r (home p) (has_body p) (home_below p formed) (home_one p formed)

  -- h is the number of names with several rules
  pub h_names : h (standard p) ≡ count n (λ a. leb 2 (ways p a))
  unfolding h
  h_names =
      let O : Set = any_head (standard p) in
      count_tail n atoms O (names_below p)
      (λ i a b. not-true (O i) (λ t.
      let q = head_find p i t in
      let x : head_at p q.0 < n = formed.heads q.0 q.1 in
      omega (arith, q.3)))
      ∙ count_same n O (λ a. leb 2 (ways p a))
      (λ a l. iff (O a) (leb 2 (ways p a))
      (λ t. let q = head_find p a t in sym (several_ways p q.0 a q.3) ∙ q.2)
      (λ t.
      let two : 2 ≤ ways p a = leb-true 2 (ways p a) t in
      let q = count_find r (λ j. eqb (head_at p j) a) (unfold ways in (omega arith)) in
      let e : head_at p q.0 ≡ a = eqb-true (head_at p q.0) a q.2 in
      subst (λ (x : ℕ). O x ≡ true) e
      (head_make p q.0 q.1 (several_ways p q.0 a e ∙ t))))

  -- the rows, the start set and the counted atoms are those of a regular system
  pub regular : Regular (standard p)
  regular = record {
    kept = λ i l d k b. unfold all_row in (pick_false (image r (home p) (λ j. body_at p j k) i) (only i k) d);
    heads = λ i l o. not-true (counted_atoms p i) (λ t.
        let q = image_find r (home p) (has_body p) i (unfold counted_atoms in t) in
        clash o (subst (λ (x : ℕ). any_head (standard p) x ≡ false) q.2 (home_no_head p formed q.0 q.1)));
    starts = λ i l s.
        let q = image_find r (home p) (λ j. not (has_body p j)) i (unfold start_set in s) in (
          subst (λ (x : ℕ). counted_atoms p x ≡ false) q.2 (counted_home q.0 q.1 ∙ of_not (has_body p q.0) q.3),
          subst (λ (x : ℕ). any_head (standard p) x ≡ false) q.2 (home_no_head p formed q.0 q.1),
        );
  }
