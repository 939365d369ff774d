-- Rows as whole slices: what the words passed so far and the next word say of each test, of the count and of a union; a bit read, one that joins.
-- Assumes nothing.
use Rattle.std.proofs.Common.{◌≡◌, refl, sym, ap, ap₂, ◌∙◌, Bool, true, false, not, ◌&&◌, ◌||◌, ℕ, zero, suc, ◌+◌, ◌-◌, ◌*◌, ◌/◌, ◌%◌, ◌^◌, ◌≤◌, ◌<◌, nat_eq, List, [], ◌∷◌, length, slice_index_or, drop, bit_and, bit_or, Fits, w64, subst, arith}
use native.Mathlib.Numerals.{add-one}
use lib.Count.{ones, ones-le}
use Rattle.limits.specs.Book.{word_bits}
use Rattle.sets.specs.Set.{Set, within, meets, same, exists, count}
use Rattle.words.specs.Row.{bit, row, Words}
use lib.Pointwise.{pointwise}
use borrow.Author.Tests.{eqb-true, eq-eqb}
use Rattle.sets.proofs.Logic.{clash, iff, and_left, and_right}
use Rattle.sets.proofs.Tests.{same_at, same_make}
use Rattle.words.proofs.Rows.{row_ext, within_word, meets_word, exists_word, within_more, meets_more, exists_more, count_more}
use lib.Bits.{or_zero_l, or_add_and, and_le_r}
use lib.Dec.{eqb-suc-zero}
use lib.Seq.{get_or-take, get_or-drop}
use borrow.Author.Tests.{ne_eqb}
use Rattle.areas.specs.Area.{part}

-- word j of a part of an area
pub word_of : (at w : ℕ) (area : List ℕ) (j : ℕ) → j < w → slice_index_or (part at w area) j 0 ≡ slice_index_or area (at + j) 0
word_of at w area j l = get_or-take w (drop at area) j 0 l ∙ get_or-drop at area j 0

-- what a slice of words says of its elements
abbrev pub Known : List ℕ → Type 0
Known xs = (k : ℕ) → Fits w64 (slice_index_or xs k 0)

pub in_range : (xs : List ℕ) → Known xs → Words xs
in_range xs p k = (p k).fits

-- the or of two words is 0 exactly where both are, at any number of bits
pub or_none : (x y : ℕ) → nat_eq (bit_or x y) 0 ≡ nat_eq x 0 && nat_eq y 0
or_none zero y = ap (λ (z : ℕ). nat_eq z 0) (or_zero_l y)
or_none (suc x) y =
    ne_eqb (bit_or (suc x) y) 0 (λ e. omega (arith, or_add_and (suc x) y, and_le_r (suc x) y))
    ∙ sym (ap (λ (b : Bool). b && nat_eq y 0) (eqb-suc-zero x))

-- so it has a bit where one of them has
pub or_some : (x y : ℕ) → not (nat_eq (bit_or x y) 0) ≡ not (nat_eq x 0) || not (nat_eq y 0)
or_some x y = ap not (or_none x y) ∙ not_both (nat_eq x 0) (nat_eq y 0)
  where
    not_both : (a b : Bool) → not (a && b) ≡ not a || not b
    not_both true b = refl
    not_both false b = refl

-- T of two rows is found a word at a time: op joins what the words before gave to `word` of the next two
abbrev pub ByWord : {A : Type 0} → (ℕ → Set → Set → A) → (A → A → A) → (ℕ → ℕ → A) → Type 0
ByWord T op word =
    (j : ℕ) (xs ys : List ℕ) → Words xs → Words ys
    → T (suc j * word_bits) (row xs) (row ys) ≡ op (T (j * word_bits) (row xs) (row ys)) (word (slice_index_or xs j 0) (slice_index_or ys j 0))

-- bit b of word k of a row is atom a
pub member_bit : (ws : List ℕ) (a k b : ℕ) → k ≡ a / word_bits → b ≡ a % word_bits
    → nat_eq (slice_index_or ws k 0 / 2 ^ b % 2) 1 ≡ row ws a
unfolding row bit
member_bit ws a k b e f = ap₂ (λ (x y : ℕ). nat_eq (slice_index_or ws x 0 / 2 ^ y % 2) 1) e f

module _ {A : Type 0} (T : ℕ → Set → Set → A) (op : A → A → A) (word : ℕ → ℕ → A) (more : ByWord T op word)
    (xs ys : List ℕ) (p : Known xs) (q : Known ys) (j : ℕ) where
  -- what was found of the words passed, joined to the next, is found with it
  further : (v : A) → v ≡ T (j * word_bits) (row xs) (row ys)
      → op v (word (slice_index_or xs j 0) (slice_index_or ys j 0)) ≡ T ((j + 1) * word_bits) (row xs) (row ys)
  further v h =
      ap (λ (u : A). op u (word (slice_index_or xs j 0) (slice_index_or ys j 0))) h ∙ sym (more j xs ys (in_range xs p) (in_range ys q))
      ∙ ap (λ (k : ℕ). T (k * word_bits) (row xs) (row ys)) (sym (add-one j))

-- two rows and the next word of each
module _ (xs ys : List ℕ) (p : Known xs) (q : Known ys) (j : ℕ) where
  -- the bits outside the other row, gathered
  pub within_on : (past : ℕ) → nat_eq past 0 ≡ within (j * word_bits) (row xs) (row ys)
      → nat_eq (bit_or past (bit_and (slice_index_or xs j 0) ((2 ^ word_bits - 1) - slice_index_or ys j 0))) 0
      ≡ within ((j + 1) * word_bits) (row xs) (row ys)
  within_on past h = or_none past _ ∙ further within ◌&&◌ within_word within_more xs ys p q j (nat_eq past 0) h

  -- the common bits, gathered
  pub meets_on : (common : ℕ) → not (nat_eq common 0) ≡ meets (j * word_bits) (row xs) (row ys)
      → not (nat_eq (bit_or common (bit_and (slice_index_or xs j 0) (slice_index_or ys j 0))) 0)
      ≡ meets ((j + 1) * word_bits) (row xs) (row ys)
  meets_on common h = or_some common _ ∙ further meets ◌||◌ meets_word meets_more xs ys p q j (not (nat_eq common 0)) h

-- a row and its next word
module _ (xs : List ℕ) (p : Known xs) (j : ℕ) where
  -- the row's bits, gathered
  pub exists_on : (found : ℕ) → not (nat_eq found 0) ≡ exists (j * word_bits) (row xs)
      → not (nat_eq (bit_or found (slice_index_or xs j 0)) 0) ≡ exists ((j + 1) * word_bits) (row xs)
  exists_on found h =
      or_some found _
      ∙ further (λ m f g. exists m f) ◌||◌ exists_word (λ j xs ys p q. exists_more j xs p) xs xs p p j (not (nat_eq found 0)) h

  -- the row's bits, counted
  pub count_on : (n : ℕ) → n ≡ count (j * word_bits) (row xs)
      → n + ones (slice_index_or xs j 0) ≡ count ((j + 1) * word_bits) (row xs)
  count_on = further (λ m f g. count m f) ◌+◌ (λ x y. ones x) (λ j xs ys p q. count_more j xs p) xs xs p p j

  -- the count stays within the row
  pub count_le : (n : ℕ) → n ≤ j * word_bits → n + ones (slice_index_or xs j 0) ≤ (j + 1) * word_bits
  count_le n h = omega (arith, ones-le word_bits (slice_index_or xs j 0) (p j).fits)

-- Equal rows.

pointwise_equal : (xs ys : List ℕ) → pointwise nat_eq xs ys ≡ true → xs ≡ ys
pointwise_equal [] [] h = refl
pointwise_equal [] (y ∷ ys) h = clash h refl
pointwise_equal (x ∷ xs) [] h = clash h refl
pointwise_equal (x ∷ xs) (y ∷ ys) h =
    ap₂ ◌∷◌ (eqb-true x y (and_left _ _ h)) (pointwise_equal xs ys (and_right _ _ h))

equal_pointwise : (xs : List ℕ) → pointwise nat_eq xs xs ≡ true
equal_pointwise [] = refl
equal_pointwise (x ∷ xs) = ap₂ ◌&&◌ (eq-eqb x x refl) (equal_pointwise xs)

-- two rows as wide as each other have the same words exactly where they have the same atoms
pub equal_same : (xs ys : List ℕ) → length xs ≡ length ys → Known xs → Known ys
    → pointwise nat_eq xs ys ≡ same (length xs * word_bits) (row xs) (row ys)
equal_same xs ys e p q =
    let n : ℕ = length xs * word_bits in
    iff (pointwise nat_eq xs ys) (same n (row xs) (row ys))
    (λ t. same_make n (row xs) (row ys) (λ i l. ap (λ (zs : List ℕ). row zs i) (pointwise_equal xs ys t)))
    (λ t. subst (λ (zs : List ℕ). pointwise nat_eq xs zs ≡ true)
    (row_ext xs ys e (in_range xs p) (in_range ys q) (same_at n (row xs) (row ys) t)) (equal_pointwise xs))
