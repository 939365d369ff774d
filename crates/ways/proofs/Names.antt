-- The names met in the heads, once and again, a rule at a time; and the rules whose head is in a row.
-- Assumes nothing.
use mathlib.Core.Path.{◌≡◌, refl, sym, ap, subst, ◌∙◌}
use mathlib.Core.Bool.{Bool, true, false, ◌||◌}
use mathlib.Core.List.{List}
use Prim.Native.Nat.{ℕ, suc, ◌+◌, ◌*◌, ◌≤◌, ◌<◌}
use native.Mathlib.Numerals.{add-one}
use native.Mathlib.Omega.{arith}
use lib.Dec.{eqb, leb}
use lib.ListN.{length, get_or, replicate}
use borrow.Author.Tests.{eqb-true, leb-true, leb-false, le-leb, lt-leb}
use Rattle.limits.specs.Book.{word_bits, body_words}
use Rattle.sets.specs.Set.{Set, Same, pick, only, union, count}
use Rattle.sets.proofs.Logic.{either, or_right, pick_true, pick_false}
use Rattle.sets.proofs.Counting.{count_in, count_out}
use Rattle.areas.specs.Area.{part, put, begun}
use Rattle.words.specs.Row.{row, pack}
use Rattle.words.proofs.Rows.{length_pack, pack_same, pack_empty, row_pack}
use Rattle.areas.proofs.Begun.{put_front, begun_whole}
use Rattle.systems.proofs.Packed.{set_row, set_joined}
use Rattle.ways.specs.Ways.{met_names, several_names}

-- a packed set that is a whole area is at its front
whole : (w : ℕ) (f : Set) (area : List ℕ) → area ≡ pack w f → area ≡ begun (pack w f) area
whole w f area e = e ∙ sym (begun_whole (pack w f) area (omega (arith, ap length e)))

-- it is read from the area
pub row_whole : (w : ℕ) (f : Set) (area : List ℕ) → area ≡ pack w f → Same (w * word_bits) (row (part 0 w area)) f
row_whole w f area e a l = ap (λ (ws : List ℕ). row (part 0 w ws) a) (whole w f area e) ∙ set_row w f area a l

-- a row with name a in it
abbrev member : ℕ → ℕ → List ℕ → List ℕ
member w a area = put 0 (pack w (union (row (part 0 w area)) (only a))) area

-- so a name joins
put_member : (w a : ℕ) (f : Set) (area : List ℕ) → area ≡ pack w f → member w a area ≡ pack w (union f (only a))
put_member w a f area e =
    let g : Set = union f (only a) in
    put_front (pack w (union (row (part 0 w area)) (only a))) area ∙ set_joined w a f area area (whole w f area e)
    ∙ begun_whole (pack w g) area (omega (arith, ap length e, length_pack w f, length_pack w g))

-- before the first rule no name is met
pub met_none : (heads : List ℕ) → replicate body_words 0 ≡ pack body_words (met_names heads 0)
unfolding met_names count
met_none heads = sym (pack_empty body_words)

pub several_none : (heads : List ℕ) → replicate body_words 0 ≡ pack body_words (several_names heads 0)
unfolding several_names count
several_none heads = sym (pack_empty body_words)

-- a name that does not join
no_more : (x y : Bool) → y ≡ false → x || y ≡ x
no_more true y e = refl
no_more false y e = e

module _ (heads : List ℕ) (j : ℕ) where
  abbrev a : ℕ
  a = get_or heads j 0

  -- the rules of name b
  abbrev of : ℕ → Set
  of b l = eqb (get_or heads l 0) b

  -- the head of one rule more has a rule more, the other names as many
  more : (b : ℕ) → eqb a b ≡ true → count (j + 1) (of b) ≡ suc (count j (of b))
  more b t = ap (λ (i : ℕ). count i (of b)) (add-one j) ∙ count_in j (of b) t

  kept : (b : ℕ) → eqb a b ≡ false → count (j + 1) (of b) ≡ count j (of b)
  kept b t = ap (λ (i : ℕ). count i (of b)) (add-one j) ∙ count_out j (of b) t

  -- so it is met
  met_more : (b : ℕ) → union (met_names heads j) (only a) b ≡ met_names heads (j + 1) b
  unfolding met_names
  met_more b =
      either (eqb a b)
      (λ t. or_right (leb 1 (count j (of b))) t ∙ sym (le-leb 1 (count (j + 1) (of b)) (omega (arith, more b t))))
      (λ t. no_more (leb 1 (count j (of b))) (eqb a b) t ∙ ap (leb 1) (sym (kept b t)))

  -- which changes nothing where it was met before
  met_kept : met_names heads j a ≡ true → (b : ℕ) → met_names heads j b ≡ met_names heads (j + 1) b
  met_kept p b =
      either (eqb a b)
      (λ t.
      subst (λ (i : ℕ). met_names heads j i ≡ true) (eqb-true a b t) p
      ∙ sym (or_right (met_names heads j b) t) ∙ met_more b)
      (λ t. sym (no_more (met_names heads j b) (eqb a b) t) ∙ met_more b)

  -- then it has several rules
  several_again : met_names heads j a ≡ true → (b : ℕ) → union (several_names heads j) (only a) b ≡ several_names heads (j + 1) b
  unfolding met_names several_names
  several_again p b =
      either (eqb a b)
      (λ t.
      let o : 1 ≤ count j (of b) = leb-true 1 (count j (of b)) (subst (λ (i : ℕ). leb 1 (count j (of i)) ≡ true) (eqb-true a b t) p) in
      or_right (leb 2 (count j (of b))) t ∙ sym (le-leb 2 (count (j + 1) (of b)) (omega (arith, more b t))))
      (λ t. no_more (leb 2 (count j (of b))) (eqb a b) t ∙ ap (leb 2) (sym (kept b t)))

  -- and one where it was not
  several_kept : met_names heads j a ≡ false → (b : ℕ) → several_names heads j b ≡ several_names heads (j + 1) b
  unfolding met_names several_names
  several_kept p b =
      either (eqb a b)
      (λ t.
      let o : count j (of b) < 1 = leb-false 1 (count j (of b)) (subst (λ (i : ℕ). leb 1 (count j (of i)) ≡ false) (eqb-true a b t) p) in
      lt-leb 2 (count j (of b)) (omega arith) ∙ sym (lt-leb 2 (count (j + 1) (of b)) (omega (arith, more b t))))
      (λ t. ap (leb 2) (sym (kept b t)))

  -- the two rows after one rule more
  module _ (w : ℕ) (once twice : List ℕ) (p : once ≡ pack w (met_names heads j)) (q : twice ≡ pack w (several_names heads j)) (h : a < w * word_bits) where
    was : row once a ≡ met_names heads j a
    was = ap (λ (ws : List ℕ). row ws a) p ∙ row_pack w (met_names heads j) a h

    pub once_more : pick (row once a) once (member w a once) ≡ pack w (met_names heads (j + 1))
    once_more =
        either (met_names heads j a)
        (λ t. pick_true once (member w a once) (was ∙ t) ∙ p ∙ pack_same w (met_names heads j) (met_names heads (j + 1)) (λ b l. met_kept t b))
        (λ t.
        pick_false once (member w a once) (was ∙ t)
        ∙ put_member w a (met_names heads j) once p
        ∙ pack_same w (union (met_names heads j) (only a)) (met_names heads (j + 1)) (λ b l. met_more b))

    pub twice_more : pick (row once a) (member w a twice) twice ≡ pack w (several_names heads (j + 1))
    twice_more =
        either (met_names heads j a)
        (λ t.
        pick_true (member w a twice) twice (was ∙ t)
        ∙ put_member w a (several_names heads j) twice q
        ∙ pack_same w (union (several_names heads j) (only a)) (several_names heads (j + 1)) (λ b l. several_again t b))
        (λ t.
        pick_false (member w a twice) twice (was ∙ t)
        ∙ q
        ∙ pack_same w (several_names heads j) (several_names heads (j + 1)) (λ b l. several_kept t b))
