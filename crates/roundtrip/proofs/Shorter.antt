-- The written text of a book is no longer than the text that it was read from.
-- Assumes nothing.
use mathlib.Core.Path.{◌≡◌, refl, sym, ap, subst, ◌∙◌}
use mathlib.Core.Bool.{true, false}
use mathlib.Core.Logic.{inl, inr}
use mathlib.Core.List.{List, [], ◌∷◌, ◌++◌, map}
use Prim.Native.Nat.{ℕ, zero, suc, ◌+◌, ◌-◌, ◌≤◌}
use native.Mathlib.Omega.{arith}
use lib.Dec.{eqb}
use lib.ListN.{length, get_or, length-append, length-map, get_or-eq_default}
use borrow.Author.Tests.{eqb-true, eqb-false, ne_eqb}
use Rattle.limits.specs.Book.{names}
use Rattle.sets.specs.Set.{Set, members, only, union}
use Rattle.sets.proofs.Logic.{either, and_left, of_not, pick_true, pick_false}
use Rattle.grammar.specs.Bytes.{Bytes, Folding, blank, name_byte, all_of, colon, line_end}
use Rattle.grammar.proofs.Words.{blank_reserved}
use Rattle.grammar.specs.Grammar.{Name, Parted, Body, RuleLine, Clause, spelling, Says, joined, mark}
use Rattle.tables.specs.Numbering.{place, places, numbered}
use Rattle.tables.specs.Reading.{Saying, Book}
use Rattle.tables.specs.Writing.{spaced_on, spaced, rule_text, written}
use Rattle.tables.proofs.Numbering.{by_place, place_at}

-- the bytes of names, with one more for each
unfoldable weight : List Bytes → ℕ
weight [] = zero
weight (n ∷ ns) = suc (length n) + weight ns

-- names with single spaces between have one byte less than that
length_on : (ns : List Bytes) → length (spaced_on ns) ≡ weight ns
unfolding spaced_on weight
length_on [] = refl
length_on (n ∷ ns) = let r : length (spaced_on ns) ≡ weight ns = length_on ns in omega (arith, length-append n (spaced_on ns))

length_spaced : (ns : List Bytes) → length (spaced ns) ≡ weight ns - 1
unfolding spaced weight
length_spaced [] = refl
length_spaced (n ∷ ns) = omega (arith, length-append n (spaced_on ns), length_on ns)

-- names folded are as long
weight_fold : (fold : ℕ → ℕ) (ns : List Bytes) → weight (map (map fold) ns) ≡ weight ns
unfolding weight
weight_fold fold [] = refl
weight_fold fold (n ∷ ns) = let r : weight (map (map fold) ns) ≡ weight ns = weight_fold fold ns in omega (arith, length-map n fold)

-- Names by number.

-- the name at the place of x is no longer than x
place_length : (ns : List Bytes) (x : Bytes) → length (get_or ns (place ns x) []) ≤ length x
place_length ns x =
    by_place ns x (λ l. omega (arith, ap length (place_at ns x l)))
    (λ q. omega (arith, ap length (get_or-eq_default ns [] {n = place ns x} (omega arith))))

module _ (ns : List Bytes) where
  -- the weight of a set's names: its members among the k numbers from i on
  cost : ℕ → Set → ℕ → ℕ
  cost k f i = weight (map (λ (a : ℕ). get_or ns a []) (members k f i))

  -- one number in front, which is a member or not
  cost_in : (k : ℕ) (f : Set) (i : ℕ) → f i ≡ true → cost (suc k) f i ≡ suc (length (get_or ns i [])) + cost k f (suc i)
  unfolding cost members weight
  cost_in k f i e =
      ap (λ (xs : List ℕ). weight (map (λ (a : ℕ). get_or ns a []) xs)) (pick_true (i ∷ members k f (suc i)) (members k f (suc i)) e)

  cost_out : (k : ℕ) (f : Set) (i : ℕ) → f i ≡ false → cost (suc k) f i ≡ cost k f (suc i)
  unfolding cost members
  cost_out k f i e =
      ap (λ (xs : List ℕ). weight (map (λ (a : ℕ). get_or ns a []) xs)) (pick_false (i ∷ members k f (suc i)) (members k f (suc i)) e)

  cost_zero : (f : Set) (i : ℕ) → cost zero f i ≡ 0
  unfolding cost members weight
  cost_zero f i = refl

  -- no members weigh nothing
  cost_none : (k : ℕ) (f : Set) (i : ℕ) → ((j : ℕ) → i ≤ j → f j ≡ false) → cost k f i ≡ 0
  cost_none zero f i h = cost_zero f i
  cost_none (suc k) f i h = cost_out k f i (h i (omega arith)) ∙ cost_none k f (suc i) (λ j l. h j (omega arith))

  -- one member weighs no more than its name
  cost_only : (k p i : ℕ) → cost k (only p) i ≤ suc (length (get_or ns p []))
  cost_only zero p i = omega (arith, cost_zero (only p) i)
  cost_only (suc k) p i =
      either (eqb p i)
      (λ e.
      let q : p ≡ i = eqb-true p i e in
      let r : length (get_or ns p []) ≡ length (get_or ns i []) = ap (λ (a : ℕ). length (get_or ns a [])) q in
      let z : cost k (only p) (suc i) ≡ 0 = cost_none k (only p) (suc i) (λ j l. ne_eqb p j (λ s. omega arith)) in
      omega (arith, cost_in k (only p) i e))
      (λ e. let r : cost k (only p) (suc i) ≤ suc (length (get_or ns p [])) = cost_only k p (suc i) in omega (arith, cost_out k (only p) i e))

  -- two sets together weigh no more than both
  cost_union : (k : ℕ) (f g : Set) (i : ℕ) → cost k (union f g) i ≤ cost k f i + cost k g i
  cost_union zero f g i = omega (arith, cost_zero (union f g) i)
  cost_union (suc k) f g i =
      let r : cost k (union f g) (suc i) ≤ cost k f (suc i) + cost k g (suc i) = cost_union k f g (suc i) in
      either (f i)
      (λ e.
      let u : cost (suc k) (union f g) i ≡ suc (length (get_or ns i [])) + cost k (union f g) (suc i) = cost_in k (union f g) i (rw e) in
      either (g i) (λ d. omega (arith, cost_in k f i e, cost_in k g i d)) (λ d. omega (arith, cost_in k f i e, cost_out k g i d)))
      (λ e.
      either (g i)
      (λ d.
      let u : cost (suc k) (union f g) i ≡ suc (length (get_or ns i [])) + cost k (union f g) (suc i) = cost_in k (union f g) i (rw (e, d)) in
      omega (arith, cost_out k f i e, cost_in k g i d))
      (λ d.
      let u : cost (suc k) (union f g) i ≡ cost k (union f g) (suc i) = cost_out k (union f g) i (rw (e, d)) in
      omega (arith, cost_out k f i e, cost_out k g i d)))

  -- the places of names weigh no more than the names as they stand
  cost_places : (k : ℕ) (xs : List Bytes) (i : ℕ) → cost k (places ns xs) i ≤ weight xs
  unfolding places weight
  cost_places k [] i = omega (arith, cost_none k (places ns []) i (λ j l. refl))
  cost_places k (x ∷ xs) i =
      let r : cost k (places ns xs) i ≤ weight xs = cost_places k xs i in
      omega (arith, cost_union k (only (place ns x)) (places ns xs) i, cost_only k (place ns x) i, place_length ns x)

-- Lines.

-- a byte of a name is no blank
module _ (fold : ℕ → ℕ) (folding : Folding fold) where
  name_no_blank : (b : ℕ) → name_byte fold b ≡ true → blank b ≡ true → ⊥
  unfolding name_byte
  name_no_blank b e d = eqb-false (fold b) 0 (of_not (eqb (fold b) 0) e) (folding.none b (blank_reserved b d))

  -- so before a name, in what starts with a blank, there is a blank
  blank_first : (s front n rest : Bytes) → s ≡ front ++ (n ++ rest) → Name fold n → Parted s → 1 ≤ length front
  unfolding all_of
  blank_first s (a ∷ front) n rest e g p = omega arith
  blank_first s [] [] rest e g p = absurd (omega (arith, g.some))
  blank_first s [] (a ∷ n) rest e g (inl q) = absurd (omega (arith, ap length (sym e ∙ q)))
  blank_first s [] (a ∷ n) rest e g (inr q) =
      let h : a ≡ q.0 = ap (λ (l : Bytes). get_or l 0 0) (sym e ∙ q.2) in
      absurd (name_no_blank a (and_left (name_byte fold a) (all_of (name_byte fold) n) g.bytes) (ap blank h ∙ q.3))

  -- a body that starts with a blank, or is empty, has a byte for each byte of its names and one more for each name
  parted_weight : (ns : List Bytes) (s : Bytes) → Body fold s ns → Parted s → weight ns ≤ length s
  unfolding Body weight
  parted_weight [] s b p = omega arith
  parted_weight (n ∷ ns) s b p =
      let front : Bytes = b.0 in
      let rest : Bytes = b.1 in
      let r : weight ns ≤ length rest = parted_weight ns rest b.6 b.5 in
      let f : 1 ≤ length front = blank_first s front n rest b.2 b.4 p in
      omega (arith, ap length b.2, length-append front (n ++ rest), length-append n rest)

  -- any body has at most one less
  body_weight : (ns : List Bytes) (s : Bytes) → Body fold s ns → weight ns ≤ suc (length s)
  unfolding Body weight
  body_weight [] s b = omega arith
  body_weight (n ∷ ns) s b =
      let front : Bytes = b.0 in
      let rest : Bytes = b.1 in
      let r : weight ns ≤ length rest = parted_weight ns rest b.6 b.5 in
      omega (arith, ap length b.2, length-append front (n ++ rest), length-append n rest)

  module _ (ns : List Bytes) where
    -- a rule's line is no shorter than what is written of it
    line_shorter : (s h : Bytes) (xs : List Bytes) → RuleLine fold s h xs → length (rule_text ns (numbered ns (spelling fold h xs))) ≤ length s
    unfolding rule_text numbered
    line_shorter s h xs r =
        let f : Set = places ns (map (map fold) xs) in
        let ws : List Bytes = map (λ (a : ℕ). get_or ns a []) (members names f 0) in
        let head : Bytes = get_or ns (place ns (map fold h)) [] in
        let c : weight ws ≤ weight xs = unfold cost in omega (arith, cost_places ns names (map (map fold) xs) 0, weight_fold fold xs) in
        let b : weight xs ≤ suc (length r.rest) = body_weight xs r.rest r.names in
        let w : length (spaced ws) ≡ weight ws - 1 = length_spaced ws in
        let t : length (head ++ (colon ∷ spaced ws)) ≡ length head + suc (length (spaced ws)) = length-append head (colon ∷ spaced ws) in
        let k : length head ≤ length h = omega (arith, place_length ns (map fold h), length-map h fold) in
        omega (
          arith,
          ap length r.shape,
          length-append r.front (h ++ (r.gap ++ (colon ∷ r.rest))),
          length-append h (r.gap ++ (colon ∷ r.rest)),
          length-append r.gap (colon ∷ r.rest),
        )

    -- so lines that say clauses are no shorter than what is written of these
    lines_shorter : (ls : List Bytes) (cs : List Clause) → Saying fold ls cs
        → length (joined (map (rule_text ns) (map (numbered ns) cs))) ≤ length (joined ls)
    unfolding Saying joined Says
    lines_shorter [] cs e = omega (arith, ap (λ (k : List Clause). length (joined (map (rule_text ns) (map (numbered ns) k)))) e)
    lines_shorter (s ∷ ls) cs (inl p) =
        let r : length (joined (map (rule_text ns) (map (numbered ns) cs))) ≤ length (joined ls) = lines_shorter ls cs p.1 in
        omega (arith, length-append s (line_end ∷ joined ls))
    lines_shorter (s ∷ ls) cs (inr p) =
        let c : Clause = p.0 in
        let rest : List Clause = p.1 in
        let line : Bytes = rule_text ns (numbered ns c) in
        let more : Bytes = joined (map (rule_text ns) (map (numbered ns) rest)) in
        let l : length line ≤ length s =
        subst (λ (d : Clause). length (rule_text ns (numbered ns d)) ≤ length s) (sym p.2.3) (line_shorter s p.2.0 p.2.1 p.2.2)
        in
        let r : length more ≤ length (joined ls) = lines_shorter ls rest p.4 in
        let q : length (joined (map (rule_text ns) (map (numbered ns) cs))) ≡ length (line ++ (line_end ∷ more)) =
        ap (λ (k : List Clause). length (joined (map (rule_text ns) (map (numbered ns) k)))) p.3
        in
        omega (arith, length-append s (line_end ∷ joined ls), length-append line (line_end ∷ more))

    -- and a book's text is no shorter than the text that is written of it
    pub written_shorter : (t : Bytes) (cs : List Clause) → Book fold t cs → length (written ns (map (numbered ns) cs)) ≤ length t
    unfolding written
    written_shorter t cs b =
        let r : length (joined (map (rule_text ns) (map (numbered ns) cs))) ≤ length (joined b.ls) = lines_shorter b.ls cs b.says in
        omega (
          arith,
          ap length b.text.shape,
          length-append mark (joined b.ls),
          length-append mark (joined (map (rule_text ns) (map (numbered ns) cs))),
        )
