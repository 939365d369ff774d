-- Rows of any width: which word and bit an atom is, rows made of sets and sets made of rows, and the tests on rows a word at a time.
-- Assumes nothing.
use mathlib.Core.Path.{◌≡◌, refl, sym, ap, ap₂, ◌∙◌, fun_ext}
use mathlib.Core.List.{List, [], ◌∷◌}
use mathlib.Core.Bool.{Bool, false, not, ◌&&◌, ◌||◌, beq, not-not}
use Prim.Native.Nat.{ℕ, zero, suc, ◌+◌, ◌-◌, ◌*◌, ◌/◌, ◌%◌, ◌^◌, ◌≤◌, ◌<◌}
use native.Mathlib.Nat.{zero-mul, zero-add, lt-suc_self, le_step}
use native.Mathlib.Omega.{arith}
use lib.Dec.{eqb, ltb}
use borrow.Author.Tests.{ltb-true, ltb-false}
use lib.Bits.{bit_and, bit_or}
use lib.Count.{ones}
use lib.Pow.{pow_pos}
use lib.ListN.{length, get_or, drop, replicate, get_or-eq_default}
use lib.Seq.{get_or-take, get_or-drop}
use Rattle.sets.specs.Set.{Set, Same, one, exists, count, within, meets, same, empty_set, union}
use Rattle.limits.specs.Book.{word_bits}
use Rattle.areas.specs.Area.{part}
use Rattle.words.specs.Row.{bit, row, Words, binary, pack}
use Rattle.sets.proofs.Logic.{either}
use Rattle.sets.proofs.Tests.{exists_same, within_same, meets_same, same_same}
use Rattle.sets.proofs.Counting.{count_same}
use Rattle.sets.proofs.Ranges.{every_add, exists_add, count_add}
use Rattle.words.proofs.Bits.{bit_zero, bit_or_lem, bit_binary, binary_lt, binary_bit, zero_none, and_meets, and_not_within, word_same, ones_count}

-- atom j * 64 + i is bit i of word j
pub row_word : (ws : List ℕ) (j i : ℕ) → i < word_bits → row ws (j * word_bits + i) ≡ bit (get_or ws j 0) i
unfolding row
row_word ws j i l =
    let d : (j * word_bits + i) / word_bits ≡ j = omega arith in
    let m : (j * word_bits + i) % word_bits ≡ i = omega arith in
    ap₂ (λ (x y : ℕ). bit (get_or ws x 0) y) d m

-- the atoms of the first word
pub row_here : (w : ℕ) (ws : List ℕ) (a : ℕ) → a < word_bits → row (w ∷ ws) a ≡ bit w a
unfolding row
row_here w ws a l =
    let d : a / word_bits ≡ 0 = omega arith in
    let m : a % word_bits ≡ a = omega arith in
    ap₂ (λ (x y : ℕ). bit (get_or (w ∷ ws) x 0) y) d m

-- the atoms past it are those of the rest
pub row_next : (w : ℕ) (ws : List ℕ) (a : ℕ) → row (w ∷ ws) (word_bits + a) ≡ row ws a
unfolding row
row_next w ws a =
    let d : (word_bits + a) / word_bits ≡ suc (a / word_bits) = omega arith in
    let m : (word_bits + a) % word_bits ≡ a % word_bits = omega arith in
    ap₂ (λ (x y : ℕ). bit (get_or (w ∷ ws) x 0) y) d m

-- no atom past the last word is a member
pub row_past : (ws : List ℕ) (a : ℕ) → length ws * word_bits ≤ a → row ws a ≡ false
unfolding row
row_past ws a l =
    let past : length ws ≤ a / word_bits = omega arith in
    ap (λ (x : ℕ). bit x (a % word_bits)) (get_or-eq_default ws 0 past) ∙ bit_zero (a % word_bits)

-- the atoms of a part of an area
pub row_part : (at w : ℕ) (area : List ℕ) (a : ℕ)
    → a < w * word_bits → row (part at w area) a ≡ bit (get_or area (at + a / word_bits) 0) (a % word_bits)
unfolding row
row_part at w area a l =
    let d : a / word_bits < w = omega arith in
    ap (λ (x : ℕ). bit x (a % word_bits)) (get_or-take w (drop at area) (a / word_bits) 0 d ∙ get_or-drop at area (a / word_bits) 0)

-- a set packed into w words is w words
pub length_pack : (w : ℕ) (f : Set) → length (pack w f) ≡ w
unfolding pack
length_pack zero f = refl
length_pack (suc w) f = ap suc (length_pack w (λ a. f (word_bits + a)))

-- in range
pub words_pack : (w : ℕ) (f : Set) → Words (pack w f)
unfolding pack
words_pack zero f k = pow_pos word_bits
words_pack (suc w) f zero = binary_lt word_bits f
words_pack (suc w) f (suc k) = words_pack w (λ a. f (word_bits + a)) k

-- an atom lies in the first word or so many past it
by_word : (P : ℕ → Type 0) → ((a : ℕ) → a < word_bits → P a) → ((a : ℕ) → P (word_bits + a)) → (a : ℕ) → P a
by_word P here past a =
    either (ltb a word_bits) (λ e. here a (ltb-true a word_bits e))
    (λ e.
    let l : word_bits ≤ a = ltb-false a word_bits e in
    let q : a ≡ word_bits + (a - word_bits) = omega arith in
    rw q (past (a - word_bits)))

-- and its members below 64 w are those of the set
pub row_pack : (w : ℕ) (f : Set) (a : ℕ) → a < w * word_bits → row (pack w f) a ≡ f a
unfolding pack
row_pack zero f a l = absurd (omega arith)
row_pack (suc w) f a l =
    by_word (λ a. a < suc w * word_bits → row (pack (suc w) f) a ≡ f a)
    (λ a l m. row_here (binary word_bits f) (pack w (λ a. f (word_bits + a))) a l ∙ bit_binary word_bits f a l)
    (λ a m. row_next (binary word_bits f) (pack w (λ a. f (word_bits + a))) a ∙ row_pack w (λ a. f (word_bits + a)) a (omega arith))
    a l

-- sets that are the same below k make the same number of k bits
binary_same : (k : ℕ) (f g : Set) → Same k f g → binary k f ≡ binary k g
unfolding binary
binary_same zero f g h = refl
binary_same (suc k) f g h =
    ap₂ (λ (b : Bool) (n : ℕ). one b * 2 ^ k + n) (h k (lt-suc_self k)) (binary_same k f g (λ i l. h i (le_step l)))

-- sets that are the same below the bound are packed alike
pub pack_same : (w : ℕ) (f g : Set) → Same (w * word_bits) f g → pack w f ≡ pack w g
unfolding pack
pack_same zero f g h = refl
pack_same (suc w) f g h =
    ap₂ ◌∷◌ (binary_same word_bits f g (λ i l. h i (omega arith)))
    (pack_same w (λ a. f (word_bits + a)) (λ a. g (word_bits + a)) (λ i l. h (word_bits + i) (omega arith)))

-- the members of a row of words in range, packed, are the row
pub pack_row : (ws : List ℕ) → Words ws → pack (length ws) (row ws) ≡ ws
unfolding pack
pack_row [] h = refl
pack_row (w ∷ ws) h =
    ap₂ ◌∷◌ (binary_same word_bits (row (w ∷ ws)) (bit w) (row_here w ws) ∙ binary_bit word_bits w (h zero))
    (ap (pack (length ws)) (fun_ext (row_next w ws)) ∙ pack_row ws (λ k. h (suc k)))

-- rows of one width, in range, with the same members are equal
pub row_ext : (xs ys : List ℕ)
    → length xs ≡ length ys → Words xs → Words ys → Same (length xs * word_bits) (row xs) (row ys) → xs ≡ ys
row_ext xs ys e p q h =
    sym (pack_row xs p) ∙ pack_same (length xs) (row xs) (row ys) h ∙ ap (λ (w : ℕ). pack w (row ys)) e ∙ pack_row ys q

-- the empty set makes 0
binary_empty : (k : ℕ) → binary k empty_set ≡ 0
unfolding binary
binary_empty zero = refl
binary_empty (suc k) = rw (zero-mul, zero-add) (binary_empty k)

-- and is packed as zeros
pub pack_empty : (w : ℕ) → pack w empty_set ≡ replicate w 0
unfolding pack
pack_empty zero = refl
pack_empty (suc w) = ap₂ ◌∷◌ (binary_empty word_bits) (pack_empty w)

-- every word of a row of zeros is 0
zero_word : (w k : ℕ) → ◌≡◌ {A = ℕ} (get_or (replicate w 0) k 0) 0
zero_word zero k = refl
zero_word (suc w) zero = refl
zero_word (suc w) (suc k) = zero_word w k

-- a row of zeros is empty
pub row_zero : (w a : ℕ) → row (replicate w 0) a ≡ false
unfolding row
row_zero w a = ap (λ (x : ℕ). bit x (a % word_bits)) (zero_word w (a / word_bits)) ∙ bit_zero (a % word_bits)

-- T over a sum of bounds is the two parts joined by op
abbrev Joins : {A : Type 0} → (ℕ → Set → Set → A) → (A → A → A) → Type 0
Joins T op = (n k : ℕ) (f g : Set) → T (n + k) f g ≡ op (T n f g) (T k (λ i. f (n + i)) (λ i. g (n + i)))

-- T of two sets that are the bits of two words is `word` of these
abbrev OnWords : {A : Type 0} → (ℕ → Set → Set → A) → (ℕ → ℕ → A) → Type 0
OnWords T word = (x y : ℕ) → x < 2 ^ word_bits → y < 2 ^ word_bits → (f g : Set)
    → Same word_bits f (bit x) → Same word_bits g (bit y) → T word_bits f g ≡ word x y

-- such a T of two rows, with one word more
module _ {A : Type 0} (T : ℕ → Set → Set → A) (op : A → A → A) (word : ℕ → ℕ → A) (add : Joins T op) (at : OnWords T word) where
  more : (j : ℕ) (xs ys : List ℕ) → Words xs → Words ys
      → T (suc j * word_bits) (row xs) (row ys) ≡ op (T (j * word_bits) (row xs) (row ys)) (word (get_or xs j 0) (get_or ys j 0))
  more j xs ys p q =
      let e : suc j * word_bits ≡ j * word_bits + word_bits = omega arith in
      ap (λ (m : ℕ). T m (row xs) (row ys)) e ∙ add (j * word_bits) word_bits (row xs) (row ys)
      ∙ ap (op (T (j * word_bits) (row xs) (row ys)))
      (at (get_or xs j 0) (get_or ys j 0) (p j) (q j) (λ i. row xs (j * word_bits + i)) (λ i. row ys (j * word_bits + i)) (row_word xs j) (row_word ys j))

-- the tests over a sum of bounds
within_add : Joins within ◌&&◌
unfolding within
within_add n k f g = every_add n k (λ i. not (f i) || g i)

meets_add : Joins meets ◌||◌
unfolding meets
meets_add n k f g = exists_add n k (λ i. f i && g i)

same_add : Joins same ◌&&◌
unfolding same
same_add n k f g = every_add n k (λ i. beq (f i) (g i))

-- the tests on one word of each row: no bit of x is outside y, a bit is in both, a bit is in x
abbrev pub within_word : ℕ → ℕ → Bool
within_word x y = eqb (bit_and x ((2 ^ word_bits - 1) - y)) 0

abbrev pub meets_word : ℕ → ℕ → Bool
meets_word x y = not (eqb (bit_and x y) 0)

abbrev pub exists_word : ℕ → ℕ → Bool
exists_word x y = not (eqb x 0)

within_at : OnWords within within_word
within_at x y p q f g a b = within_same word_bits f (bit x) g (bit y) a b ∙ sym (and_not_within word_bits x y p q)

meets_at : OnWords meets meets_word
meets_at x y p q f g a b =
    meets_same word_bits f (bit x) g (bit y) a b ∙ sym (ap not (and_meets word_bits x y p q) ∙ not-not (meets word_bits (bit x) (bit y)))

same_at : OnWords same eqb
same_at x y p q f g a b = same_same word_bits f (bit x) g (bit y) a b ∙ sym (word_same word_bits x y p q)

exists_at : OnWords (λ m f g. exists m f) exists_word
exists_at x y p q f g a b =
    exists_same word_bits f (bit x) a ∙ sym (ap not (zero_none word_bits x p) ∙ not-not (exists word_bits (bit x)))

count_at : OnWords (λ m f g. count m f) (λ x y. ones x)
count_at x y p q f g a b = count_same word_bits f (bit x) a ∙ sym (ones_count word_bits x p)

-- the word at j after the j words before it
pub within_more : (j : ℕ) (xs ys : List ℕ) → Words xs → Words ys
    → within (suc j * word_bits) (row xs) (row ys)
    ≡ within (j * word_bits) (row xs) (row ys) && within_word (get_or xs j 0) (get_or ys j 0)
within_more = more within ◌&&◌ within_word within_add within_at

pub meets_more : (j : ℕ) (xs ys : List ℕ) → Words xs → Words ys
    → meets (suc j * word_bits) (row xs) (row ys)
    ≡ meets (j * word_bits) (row xs) (row ys) || not (eqb (bit_and (get_or xs j 0) (get_or ys j 0)) 0)
meets_more = more meets ◌||◌ meets_word meets_add meets_at

pub same_more : (j : ℕ) (xs ys : List ℕ) → Words xs → Words ys
    → same (suc j * word_bits) (row xs) (row ys) ≡ same (j * word_bits) (row xs) (row ys) && eqb (get_or xs j 0) (get_or ys j 0)
same_more = more same ◌&&◌ eqb same_add same_at

pub exists_more : (j : ℕ) (xs : List ℕ) → Words xs
    → exists (suc j * word_bits) (row xs) ≡ exists (j * word_bits) (row xs) || not (eqb (get_or xs j 0) 0)
exists_more j xs p = more (λ m f g. exists m f) ◌||◌ exists_word (λ m k f g. exists_add m k f) exists_at j xs xs p p

pub count_more : (j : ℕ) (xs : List ℕ) → Words xs
    → count (suc j * word_bits) (row xs) ≡ count (j * word_bits) (row xs) + ones (get_or xs j 0)
count_more j xs p = more (λ m f g. count m f) ◌+◌ (λ x y. ones x) (λ m k f g. count_add m k f) count_at j xs xs p p

-- bits of a union: where each word is the or of two, the row is the union of their rows
pub union_row : (xs ys zs : List ℕ) → ((j : ℕ) → get_or zs j 0 ≡ bit_or (get_or xs j 0) (get_or ys j 0))
    → (a : ℕ) → row zs a ≡ union (row xs) (row ys) a
unfolding row
union_row xs ys zs h a =
    ap (λ (x : ℕ). bit x (a % word_bits)) (h (a / word_bits)) ∙ bit_or_lem (get_or xs (a / word_bits) 0) (get_or ys (a / word_bits) 0) (a % word_bits)
