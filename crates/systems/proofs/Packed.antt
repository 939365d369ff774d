-- Areas of packed rows, of any width: their length, what is read from them, one row put, areas begun or filled with them, and a set at the front of an area.
-- Assumes nothing.
use mathlib.Core.Path.{◌≡◌, refl, sym, ap, ap₂, ◌∙◌}
use mathlib.Core.Bool.{Bool, false, ◌&&◌, ◌||◌}
use mathlib.Core.List.{List, ◌∷◌, ◌++◌, append_assoc}
use Prim.Native.Nat.{ℕ, zero, suc, ◌+◌, ◌-◌, ◌*◌, ◌/◌, ◌%◌, ◌≤◌, ◌<◌}
use native.Mathlib.Nat.{zero-mul, zero-add, suc-add, suc-mul, mul-le-mul_right, lt-suc_self, le_step, le_antisymm}
use native.Mathlib.Numerals.{add-one}
use native.Mathlib.Omega.{arith}
use lib.Dec.{eqb, ltb}
use borrow.Author.Tests.{eq-eqb, ne_eqb, lt-ltb, le-ltb, ltb-true, ltb-false}
use lib.ListN.{length, get_or, take, drop, replicate, length-append, length-take, length-replicate, take-append-drop, get_or-replicate, replicate-append-replicate, get_or-append}
use lib.Seq.{get_or-append-add, take_at, drop_at, take-add}
use Rattle.limits.specs.Book.{word_bits}
use Rattle.sets.specs.Set.{Set, Same, pick, empty_set, only, union}
use Rattle.sets.proofs.Logic.{either, pick_true, pick_false}
use Rattle.sets.proofs.Tests.{below_suc}
use Rattle.areas.specs.Area.{part, put, begun, filled}
use Rattle.words.specs.Row.{row, bit, Words, binary, pack}
use Rattle.words.proofs.Bits.{bit_zero}
use Rattle.words.proofs.Rows.{length_pack, row_pack, row_past, row_part, pack_same, pack_row, pack_empty}
use Rattle.areas.proofs.Parts.{length_part, put_over}
use Rattle.areas.proofs.Begun.{begun_none, length_begun, drop_begun, used, put_begun, begun_begun, zeros_front}
use Rattle.areas.proofs.Filled.{filled_is}
use Rattle.words.proofs.Areas.{words_part}
use Rattle.systems.specs.Rows.{row_in, packed, below}

-- The words of rows.

-- m rows of w words
pub length_packed : (w m : ℕ) (rows : ℕ → Set) → length (packed w m rows) ≡ m * w
unfolding packed
length_packed w zero rows = sym (zero-mul w)
length_packed w (suc m) rows =
    length-append (packed w m rows) (pack w (rows m)) ∙ ap₂ ◌+◌ (length_packed w m rows) (length_pack w (rows m)) ∙ sym (suc-mul m w)

-- rows that are the same below the width are packed alike
pub packed_same : (w m : ℕ) (f g : ℕ → Set) → ((i : ℕ) → i < m → Same (w * word_bits) (f i) (g i)) → packed w m f ≡ packed w m g
unfolding packed
packed_same w zero f g h = refl
packed_same w (suc m) f g h =
    ap₂ ◌++◌ (packed_same w m f g (λ i l. h i (le_step l))) (pack_same w (f m) (g m) (h m (lt-suc_self m)))

-- rows with no member are zeros
pub packed_empty : (w m : ℕ) → packed w m (λ i. empty_set) ≡ replicate (m * w) 0
unfolding packed
packed_empty w zero = ap (λ (k : ℕ). replicate k 0) (sym (zero-mul w))
packed_empty w (suc m) =
    ap₂ ◌++◌ (packed_empty w m) (pack_empty w) ∙ replicate-append-replicate (m * w) w 0
    ∙ ap (λ (k : ℕ). replicate k 0) (sym (suc-mul m w))

-- one row more, before what follows
packed_on : (w m : ℕ) (rows : ℕ → Set) (ys : List ℕ) → packed w (suc m) rows ++ ys ≡ packed w m rows ++ (pack w (rows m) ++ ys)
unfolding packed
packed_on w m rows ys = append_assoc (packed w m rows) (pack w (rows m)) ys

-- the words of row i
pub part_packed : (w m : ℕ) (rows : ℕ → Set) (ys : List ℕ) (i : ℕ) → i < m → part (i * w) w (packed w m rows ++ ys) ≡ pack w (rows i)
part_packed w zero rows ys i l = absurd (omega arith)
part_packed w (suc m) rows ys i l =
    ap (part (i * w) w) (packed_on w m rows ys)
    ∙ below_suc (λ i. part (i * w) w (packed w m rows ++ (pack w (rows m) ++ ys)) ≡ pack w (rows i)) m
    (λ i l. part_packed w m rows (pack w (rows m) ++ ys) i l)
    (ap (take w) (drop_at (packed w m rows) (pack w (rows m) ++ ys) (m * w) (length_packed w m rows))
    ∙ take_at (pack w (rows m)) ys w (length_pack w (rows m))) i l

-- a set that fits v words, packed into more
pub wide_pack : (v w : ℕ) (f : Set) → ((a : ℕ) → v * word_bits ≤ a → f a ≡ false) → pack (v + w) f ≡ pack v f ++ replicate w 0
unfolding pack
wide_pack zero w f h =
    ap (λ (k : ℕ). pack k f) (zero-add w) ∙ pack_same w f empty_set (λ a l. h a (omega arith)) ∙ pack_empty w
wide_pack (suc v) w f h =
    ap (λ (k : ℕ). pack k f) (suc-add v w)
    ∙ ap (λ (t : List ℕ). binary word_bits f ∷ t) (wide_pack v w (λ a. f (word_bits + a)) (λ a l. h (word_bits + a) (omega arith)))

-- Rows read.

-- no part has a member past its width
pub part_past : (at w : ℕ) (area : List ℕ) (a : ℕ) → w * word_bits ≤ a → row (part at w area) a ≡ false
part_past at w area a h =
    let k : length (part at w area) ≤ w = omega (arith, length-take w (drop at area)) in
    row_past (part at w area) a (omega arith)

pub row_in_past : (w : ℕ) (area : List ℕ) (i a : ℕ) → w * word_bits ≤ a → row_in w area i a ≡ false
row_in_past w area i = part_past (i * w) w area

-- a row of an area that begins with packed rows
row_front : (w m : ℕ) (rows : ℕ → Set) (ys : List ℕ) (i a : ℕ) → i < m → a < w * word_bits → row_in w (packed w m rows ++ ys) i a ≡ rows i a
row_front w m rows ys i a l b =
    ap (λ (ws : List ℕ). row ws a) (part_packed w m rows ys i l) ∙ row_pack w (rows i) a b

-- of an area begun with them
pub row_begun : (w m : ℕ) (rows : ℕ → Set) (old : List ℕ) (i a : ℕ)
    → i < m → a < w * word_bits → row_in w (begun (packed w m rows) old) i a ≡ rows i a
unfolding begun
row_begun w m rows old i a l b = row_front w m rows (drop (length (packed w m rows)) old) i a l b

-- and past them as it was
pub row_begun_past : (w m : ℕ) (rows : ℕ → Set) (old : List ℕ) (i : ℕ)
    → m ≤ i → row_in w (begun (packed w m rows) old) i ≡ row_in w old i
row_begun_past w m rows old i l =
    let b : m * w ≤ i * w = mul-le-mul_right w l in
    ap (λ (t : List ℕ). row (take w t)) (drop_begun (i * w) (packed w m rows) old (omega (arith, length_packed w m rows)))

-- of an area filled with them
pub row_filled : (w m size : ℕ) (rows : ℕ → Set) (old : List ℕ) (i a : ℕ)
    → i < m → a < w * word_bits → row_in w (filled size (packed w m rows) old) i a ≡ rows i a
row_filled w m size rows old i a l b =
    ap (λ (t : List ℕ). row_in w t i a) (filled_is size (packed w m rows) old)
    ∙ row_front w m rows (replicate (size - length (packed w m rows)) 0 ++ drop size old) i a l b

-- a word past the used part of a filled area
pub zero_word : (size : ℕ) (xs old : List ℕ) (k : ℕ) → length xs ≤ k → k < size → ◌≡◌ {A = ℕ} (get_or (filled size xs old) k 0) 0
zero_word size xs old k h l =
    let q : k ≡ length xs + (k - length xs) = omega arith in
    let z : List ℕ = replicate (size - length xs) 0 in
    let n : length z ≡ size - length xs = length-replicate (size - length xs) 0 in
    ap (λ (t : List ℕ). get_or t k 0) (filled_is size xs old) ∙ ap (λ (j : ℕ). get_or (xs ++ (z ++ drop size old)) j 0) q
    ∙ get_or-append-add xs (z ++ drop size old) (k - length xs) 0
    ∙ get_or-append z (drop size old) 0 (k - length xs) (omega arith)
    ∙ get_or-replicate (size - length xs) (k - length xs) 0 0 (omega arith)

-- so a row that lies there is empty, to the stated size
pub row_unused : (w size : ℕ) (xs old : List ℕ) (i a : ℕ)
    → length xs ≤ i * w → suc i * w ≤ size → row_in w (filled size xs old) i a ≡ false
row_unused w size xs old i a s h =
    let area : List ℕ = filled size xs old in
    either (ltb a (w * word_bits))
    (λ e.
    let b : a < w * word_bits = ltb-true a (w * word_bits) e in
    let q : a / word_bits < w = omega arith in
    let t : suc i * w ≡ i * w + w = suc-mul i w in
    row_part (i * w) w area a b
    ∙ ap (λ (x : ℕ). bit x (a % word_bits)) (zero_word size xs old (i * w + a / word_bits) (omega arith) (omega arith))
    ∙ bit_zero (a % word_bits))
    (λ e. row_in_past w area i a (ltb-false a (w * word_bits) e))

-- as is one past the rows that the area is filled with
pub row_filled_past : (w m size : ℕ) (rows : ℕ → Set) (old : List ℕ) (i a : ℕ)
    → m ≤ i → suc i * w ≤ size → row_in w (filled size (packed w m rows) old) i a ≡ false
row_filled_past w m size rows old i a l h =
    let s : m * w ≤ i * w = mul-le-mul_right w l in
    row_unused w size (packed w m rows) old i a (omega (arith, length_packed w m rows)) h

-- Rows put.

-- nothing packed yet
pub packed_none : (w : ℕ) (rows : ℕ → Set) (old : List ℕ) → begun (packed w 0 rows) old ≡ old
unfolding packed
packed_none w rows old = begun_none old

-- the next row put
pub put_next : (w m : ℕ) (rows : ℕ → Set) (old : List ℕ)
    → put (m * w) (pack w (rows m)) (begun (packed w m rows) old) ≡ begun (packed w (suc m) rows) old
unfolding packed
put_next w m rows old =
    ap (λ (k : ℕ). put k (pack w (rows m)) (begun (packed w m rows) old)) (sym (length_packed w m rows))
    ∙ put_begun (packed w m rows) (pack w (rows m)) old

-- one row after another: `area` has the first i of them
module _ (w : ℕ) (rows : ℕ → Set) (old area : List ℕ) (i : ℕ) (e : area ≡ begun (packed w i rows) old) where
  -- one row more
  pub rows_next : (new : List ℕ) → new ≡ put (i * w) (pack w (rows i)) area → new ≡ begun (packed w (i + 1) rows) old
  rows_next new f =
      f ∙ ap (put (i * w) (pack w (rows i))) e ∙ put_next w i rows old ∙ ap (λ (k : ℕ). begun (packed w k rows) old) (sym (add-one i))

  -- all m
  pub rows_all_lem : (m : ℕ) → i ≤ m → m ≤ i → area ≡ begun (packed w m rows) old
  rows_all_lem m l h = e ∙ ap (λ (k : ℕ). begun (packed w k rows) old) (le_antisymm l h)

-- the rows with f as row i
abbrev changed : ℕ → Set → (ℕ → Set) → ℕ → Set
changed i f rows k = pick (eqb i k) f (rows k)

changed_here : (i : ℕ) (f : Set) (rows : ℕ → Set) → changed i f rows i ≡ f
changed_here i f rows = pick_true f (rows i) (eq-eqb i i refl)

changed_other : (i k : ℕ) (f : Set) (rows : ℕ → Set) → (i ≡ k → ⊥) → changed i f rows k ≡ rows k
changed_other i k f rows h = pick_false f (rows k) (ne_eqb i k h)

put_packed : (w m i : ℕ) (f : Set) (rows : ℕ → Set) (ys : List ℕ)
    → i < m → put (i * w) (pack w f) (packed w m rows ++ ys) ≡ packed w m (changed i f rows) ++ ys
put_packed w zero i f rows ys l = absurd (omega arith)
put_packed w (suc m) i f rows ys l =
    ap (put (i * w) (pack w f)) (packed_on w m rows ys)
    ∙ below_suc
    (λ i. put (i * w) (pack w f) (packed w m rows ++ (pack w (rows m) ++ ys)) ≡ packed w m (changed i f rows) ++ (pack w (changed i f rows m) ++ ys)) m
    (λ i l.
    put_packed w m i f rows (pack w (rows m) ++ ys) l
    ∙ ap (λ (g : Set). packed w m (changed i f rows) ++ (pack w g ++ ys)) (sym (changed_other i m f rows (λ e. omega arith))))
    (put_over (m * w) (packed w m rows) (pack w (rows m)) (pack w f) ys (length_packed w m rows) (length_pack w f ∙ sym (length_pack w (rows m)))
    ∙ ap₂ (λ (s : List ℕ) (g : Set). s ++ (pack w g ++ ys))
    (packed_same w m rows (changed m f rows) (λ k l a b. ap (λ (g : Set). g a) (sym (changed_other m k f rows (λ e. omega arith)))))
    (sym (changed_here m f rows)))
    i l
    ∙ sym (packed_on w m (changed i f rows) ys)

-- one row changed
pub put_row : (w m i : ℕ) (f : Set) (rows : ℕ → Set) (old : List ℕ)
    → i < m → put (i * w) (pack w f) (begun (packed w m rows) old) ≡ begun (packed w m (λ k. pick (eqb i k) f (rows k))) old
unfolding begun
put_row w m i f rows old l =
    put_packed w m i f rows (drop (length (packed w m rows)) old) l
    ∙ ap (λ (k : ℕ). packed w m (changed i f rows) ++ drop k old) (length_packed w m rows ∙ sym (length_packed w m (changed i f rows)))

-- Rows that are read, packed again.

take_rows : (w m : ℕ) (area : List ℕ) → Words area → m * w ≤ length area → packed w m (row_in w area) ≡ take (m * w) area
unfolding packed
take_rows w zero area p h = ap (λ (k : ℕ). take k area) (sym (zero-mul w))
take_rows w (suc m) area p h =
    let s : suc m * w ≡ m * w + w = suc-mul m w in
    let r : List ℕ = part (m * w) w area in
    let e : length r ≡ w = length_part (m * w) w area (omega arith) in
    ap₂ ◌++◌ (take_rows w m area p (omega arith))
    (ap (λ (k : ℕ). pack k (row r)) (sym e) ∙ pack_row r (words_part (m * w) w area p))
    ∙ sym (take-add (m * w) w area) ∙ ap (λ (k : ℕ). take k area) (sym s)

-- an area begun with its own rows is as it was
pub begun_rows : (w m : ℕ) (area : List ℕ) → Words area → m * w ≤ length area → begun (packed w m (row_in w area)) area ≡ area
unfolding begun
begun_rows w m area p h =
    ap₂ (λ (s : List ℕ) (k : ℕ). s ++ drop k area) (take_rows w m area p h) (length_packed w m (row_in w area))
    ∙ take-append-drop (m * w) area

-- Words and sets at the front of an area.

-- a set in w words
module _ (w : ℕ) where
  -- zeros hold the set with no member
  pub set_none : (old : List ℕ) → replicate w 0 ++ drop w old ≡ begun (pack w empty_set) old
  set_none old = zeros_front w old ∙ ap (λ (xs : List ℕ). begun xs old) (sym (pack_empty w))

  -- the words that hold it
  pub set_words : (f : Set) (old : List ℕ) → part 0 w (begun (pack w f) old) ≡ pack w f
  set_words f old = ap (λ (k : ℕ). take k (begun (pack w f) old)) (sym (length_pack w f)) ∙ used (pack w f) old

  -- so it is read back
  pub set_row : (f : Set) (old : List ℕ) → Same (w * word_bits) (row (part 0 w (begun (pack w f) old))) f
  set_row f old a l = ap (λ (ws : List ℕ). row ws a) (set_words f old) ∙ row_pack w f a l

  -- an area that is long enough is as long as it was
  pub length-set : (f : Set) (old : List ℕ) → w ≤ length old → length (begun (pack w f) old) ≡ length old
  length-set f old l = length_begun (pack w f) old (omega (arith, length_pack w f))

  -- the last set put in is the one that is there
  pub set_again : (f g : Set) (old : List ℕ) → begun (pack w f) (begun (pack w g) old) ≡ begun (pack w f) old
  set_again f g old = begun_begun (pack w f) (pack w g) old (length_pack w f ∙ sym (length_pack w g))

  -- sets that are the same in the words leave the same area
  pub set_same : (f g : Set) (old : List ℕ) → Same (w * word_bits) f g → begun (pack w f) old ≡ begun (pack w g) old
  set_same f g old s = ap (λ (xs : List ℕ). begun xs old) (pack_same w f g s)

  -- an area of words in range has the set that is in it
  pub set_known : (area : List ℕ) → Words area → w ≤ length area → begun (pack w (row (part 0 w area))) area ≡ area
  unfolding begun
  set_known area p l =
      let f : Set = row (part 0 w area) in
      let n : length (part 0 w area) ≡ w = length_part 0 w area (omega arith) in
      ap₂ (λ (s : List ℕ) (k : ℕ). s ++ drop k area) (ap (λ (k : ℕ). pack k f) (sym n) ∙ pack_row (part 0 w area) (words_part 0 w area p)) (length_pack w f)
      ∙ take-append-drop w area

  -- a number joins the set that is in an area
  pub set_joined : (a : ℕ) (f : Set) (area old : List ℕ) → area ≡ begun (pack w f) old
      → begun (pack w (union (row (part 0 w area)) (only a))) area ≡ begun (pack w (union f (only a))) old
  set_joined a f area old e =
      let g : Set = union (row (part 0 w area)) (only a) in
      ap (begun (pack w g)) e ∙ set_again g f old
      ∙ set_same g (union f (only a)) old
      (λ k l. ap (λ (b : Bool). b || only a k) (ap (λ (ws : List ℕ). row (part 0 w ws) k) e ∙ set_row f old k l))

  -- a set below m is read back below m
  pub set_below : (m : ℕ) (f : Set) (old : List ℕ) → m ≤ w * word_bits → Same m (row (part 0 w (begun (pack w (below m f)) old))) f
  set_below m f old h a l = set_row (below m f) old a (omega arith) ∙ ap (λ (b : Bool). b && f a) (lt-ltb a m l)

  -- and nothing past it
  pub set_below_past : (m : ℕ) (f : Set) (old : List ℕ) (a : ℕ) → m ≤ a → row (part 0 w (begun (pack w (below m f)) old)) a ≡ false
  set_below_past m f old a l =
      either (ltb a (w * word_bits))
      (λ t. set_row (below m f) old a (ltb-true a (w * word_bits) t) ∙ ap (λ (b : Bool). b && f a) (le-ltb a m l))
      (λ t. part_past 0 w (begun (pack w (below m f)) old) a (ltb-false a (w * word_bits) t))
