-- Writing into a row: a word set in its place, one more word of a union, and one atom.
-- Assumes nothing.
use mathlib.Core.Path.{◌≡◌, refl, subst, sym, ap, ap₂, ◌∙◌, fun_ext}
use mathlib.Core.List.{List, [], ◌∷◌, ◌++◌, append_assoc}
use mathlib.Core.Bool.{Bool, ◌||◌, or-false}
use Prim.Native.Nat.{ℕ, zero, suc, ◌+◌, ◌*◌, ◌/◌, ◌%◌, ◌^◌, ◌<◌}
use native.Mathlib.Nat.{add-zero, one-mul}
use native.Mathlib.Numerals.{add-one}
use native.Mathlib.Omega.{arith}
use lib.Bits.{bit_or, or_lt}
use lib.Pow.{pow-lt, shl_exact}
use lib.Dec.{eqb}
use lib.ListN.{length, get_or, take, drop, set, length-append, length-take, length-set}
use lib.Seq.{drop-cons, set_at, get_or-drop, get_or-append-add, get_or-set_same, get_or-set_other}
use borrow.Author.Tests.{eqb-true, eqb-false, eq-eqb, ne_eqb}
use Rattle.limits.specs.Book.{word_bits}
use Rattle.sets.specs.Set.{Set, Same, only, union}
use Rattle.areas.specs.Area.{begun, put}
use Rattle.words.specs.Row.{bit, row, pack, binary, Words}
use Rattle.sets.proofs.Logic.{either}
use Rattle.words.proofs.Bits.{bit_or_lem, bit_power, bit_binary, bits_equal, binary_lt}
use Rattle.words.proofs.Rows.{row_word, length_pack, pack_row, pack_same}
use Rattle.areas.proofs.Begun.{put_front, begun_whole}
use Rattle.rows.proofs.Reading.{Known, in_range}

-- a word with the bits of f
word_is : (v : ℕ) (f : Set) → v < 2 ^ word_bits → Same word_bits f (bit v) → binary word_bits f ≡ v
word_is v f h s = bits_equal word_bits (binary word_bits f) v (binary_lt word_bits f) h (λ i l. bit_binary word_bits f i l ∙ s i l)

-- ys, j words, put at `at`, with room for one more
module _ (at j : ℕ) (ys area : List ℕ) (e : length ys ≡ j) (h : at + j < length area) where
  front : List ℕ
  front = take at area ++ ys

  front_length : length front ≡ at + j
  unfolding front
  front_length = simp (length-append, length-take) (omega arith)

  in_front : put at ys area ≡ front ++ drop (at + j) area
  unfolding front
  in_front =
      ap (λ (n : ℕ). take at area ++ (ys ++ drop (at + n) area)) e ∙ sym (append_assoc (take at area) ys (drop (at + j) area))

  -- the word past those put is as it was
  put_past : get_or (put at ys area) (at + j) 0 ≡ get_or area (at + j) 0
  put_past =
      ap (λ (l : List ℕ). get_or l (at + j) 0) in_front
      ∙ ap (λ (n : ℕ). get_or (front ++ drop (at + j) area) n 0) (sym front_length ∙ sym (add-zero (length front)))
      ∙ get_or-append-add front (drop (at + j) area) 0 0
      ∙ get_or-drop (at + j) area 0 0
      ∙ ap (λ (n : ℕ). get_or area n 0) (add-zero (at + j))

  -- a word set there is one more word put
  put_more : (v : ℕ) → set (put at ys area) (at + j) v ≡ put at (ys ++ (v ∷ [])) area
  unfolding front
  put_more v =
      let n : ℕ = at + j in
      let m : suc n ≡ at + length (ys ++ (v ∷ [])) = simp length-append (omega arith) in
      ap (λ (l : List ℕ). set l n v) (in_front ∙ ap (λ (l : List ℕ). front ++ l) (drop-cons area n 0 h))
      ∙ set_at front (get_or area n 0) (drop (suc n) area) v n front_length
      ∙ append_assoc (take at area) ys (v ∷ drop (suc n) area)
      ∙ ap (λ (l : List ℕ). take at area ++ l) (sym (append_assoc ys (v ∷ []) (drop (suc n) area)))
      ∙ ap (λ (k : ℕ). take at area ++ ((ys ++ (v ∷ [])) ++ drop k area)) m

-- the next word of a packed set
pack_more : (j : ℕ) (f : Set) → pack (suc j) f ≡ pack j f ++ (binary word_bits (λ i. f (j * word_bits + i)) ∷ [])
unfolding pack
pack_more zero f = ap (λ g. binary word_bits g ∷ []) (fun_ext (λ i. ap f (at_zero i)))
  where
    at_zero : (i : ℕ) → i ≡ 0 * word_bits + i
    at_zero i = omega arith
pack_more (suc j) f =
    ap (λ l. binary word_bits f ∷ l)
    (pack_more j (λ a. f (word_bits + a))
    ∙ ap (λ g. pack j (λ a. f (word_bits + a)) ++ (binary word_bits g ∷ [])) (fun_ext (λ i. ap f (at_more i))))
  where
    at_more : (i : ℕ) → word_bits + (j * word_bits + i) ≡ suc j * word_bits + i
    at_more i = omega arith

-- a row of words in range with the members of f is f packed
row_packed : (w : ℕ) (ys : List ℕ) (f : Set) → length ys ≡ w → Words ys → Same (w * word_bits) (row ys) f → ys ≡ pack w f
row_packed w ys f e p s = sym (pack_row ys p) ∙ ap (λ (k : ℕ). pack k (row ys)) e ∙ pack_same w (row ys) f s

-- a word in range keeps the row's words in range
words_set : (ws : List ℕ) (q v : ℕ) → Words ws → v < 2 ^ word_bits → Words (set ws q v)
words_set [] q v p h k = p k
words_set (x ∷ ws) zero v p h zero = h
words_set (x ∷ ws) zero v p h (suc k) = p (suc k)
words_set (x ∷ ws) (suc q) v p h zero = p zero
words_set (x ∷ ws) (suc q) v p h (suc k) = words_set ws q v (λ i. p (suc i)) h k

-- bit b of word q joins the row
module _ (ws : List ℕ) (q b : ℕ) (l : q < length ws) (m : b < word_bits) (a : ℕ) where
  -- the two numberings of an atom of word q
  here : q ≡ a / word_bits → eqb b (a % word_bits) ≡ eqb (q * word_bits + b) a
  here e =
      either (eqb b (a % word_bits))
      (λ t.
      let r : b ≡ a % word_bits = eqb-true _ _ t in
      t ∙ sym (eq-eqb (q * word_bits + b) a (omega arith)))
      (λ f. f ∙ sym (ne_eqb (q * word_bits + b) a (λ (g : q * word_bits + b ≡ a). eqb-false b (a % word_bits) f (omega arith))))

  -- the row with that bit
  joined : row (set ws q (bit_or (get_or ws q 0) (2 ^ b))) a ≡ row ws a || eqb (q * word_bits + b) a
  unfolding row
  joined =
      let v : ℕ = bit_or (get_or ws q 0) (2 ^ b) in
      either (eqb q (a / word_bits))
      (λ t.
      let e : q ≡ a / word_bits = eqb-true _ _ t in
      ap (λ (k : ℕ). bit (get_or (set ws q v) k 0) (a % word_bits)) (sym e)
      ∙ ap (λ (x : ℕ). bit x (a % word_bits)) (get_or-set_same ws q v 0 l)
      ∙ bit_or_lem (get_or ws q 0) (2 ^ b) (a % word_bits)
      ∙ ap₂ ◌||◌ (ap (λ (k : ℕ). bit (get_or ws k 0) (a % word_bits)) e) (bit_power b (a % word_bits) ∙ here e))
      (λ f.
      let n : a / word_bits ≡ q → ⊥ = λ e. eqb-false q (a / word_bits) f (sym e) in
      ap (λ (x : ℕ). bit x (a % word_bits)) (get_or-set_other ws q (a / word_bits) v 0 n)
      ∙ sym (or-false _)
      ∙ ap (λ (x : Bool). bit (get_or ws (a / word_bits) 0) (a % word_bits) || x)
      (sym (ne_eqb (q * word_bits + b) a (λ (g : q * word_bits + b ≡ a). n (omega arith)))))

-- the union of the rows old and src, equally wide
module _ (old src : List ℕ) where
  abbrev both : Set
  both = union (row old) (row src)

  -- before the first word nothing is written
  pub unite_none : old ≡ begun (pack 0 both) old
  unfolding pack begun
  unite_none = refl

  -- past the last word the row is the whole union
  pub unite_all : (new : List ℕ) → new ≡ begun (pack (length old) both) old → new ≡ pack (length old) both
  unite_all new e = e ∙ begun_whole (pack (length old) both) old (omega (arith, length_pack (length old) both))

  module _ (new : List ℕ) (p : Known new) (q : Known src) (j : ℕ) (h : j < length old) (e : new ≡ begun (pack j both) old) where
    word : ℕ
    word = bit_or (get_or new j 0) (get_or src j 0)

    from_front : 0 + j ≡ j
    from_front = omega arith

    -- what is written is put from place 0 on
    at_front : new ≡ put 0 (pack j both) old
    at_front = e ∙ sym (put_front (pack j both) old)

    -- the next word is still the old one
    kept : get_or new j 0 ≡ get_or old j 0
    kept =
        subst (λ (k : ℕ). get_or new k 0 ≡ get_or old k 0) from_front
        (ap (λ (xs : List ℕ). get_or xs (0 + j) 0) at_front ∙ put_past 0 j (pack j both) old (length_pack j both) (omega arith))

    -- and its bits with the other row's are those of the union
    word_bits_lem : Same word_bits (λ i. both (j * word_bits + i)) (bit word)
    unfolding word
    word_bits_lem i m =
        ap₂ ◌||◌ (row_word old j i m ∙ ap (λ (x : ℕ). bit x i) (sym kept)) (row_word src j i m)
        ∙ sym (bit_or_lem (get_or new j 0) (get_or src j 0) i)

    -- one word more
    pub unite_on : set new j (bit_or (get_or new j 0) (get_or src j 0)) ≡ begun (pack (j + 1) both) old
    unfolding word
    unite_on =
        ap (λ (k : ℕ). set new k word) (sym from_front)
        ∙ ap (λ (xs : List ℕ). set xs (0 + j) word) at_front
        ∙ put_more 0 j (pack j both) old (length_pack j both) (omega arith) word
        ∙ ap (λ (v : ℕ). put 0 (pack j both ++ (v ∷ [])) old)
        (sym (word_is word (λ i. both (j * word_bits + i)) (or_lt word_bits _ _ (p j).fits (q j).fits) word_bits_lem))
        ∙ ap (λ (ys : List ℕ). put 0 ys old) (sym (pack_more j both) ∙ ap (λ (k : ℕ). pack k both) (sym (add-one j)))
        ∙ put_front (pack (j + 1) both) old

-- atom a, which is bit b of word q, joins the row
pub insert_bit : (ws : List ℕ) (a q b : ℕ) → Known ws → a < length ws * word_bits → q ≡ a / word_bits → b ≡ a % word_bits
    → set ws q (bit_or (get_or ws q 0) ((1 * 2 ^ b) % 2 ^ word_bits)) ≡ pack (length ws) (union (row ws) (only a))
insert_bit ws a q b p l e f =
    let lw : q < length ws = omega arith in
    let lb : b < word_bits = omega arith in
    let one : (1 * 2 ^ b) % 2 ^ word_bits ≡ 2 ^ b = shl_exact 1 b word_bits (omega arith) (omega arith) ∙ one-mul (2 ^ b) in
    let v : ℕ = bit_or (get_or ws q 0) (2 ^ b) in
    let ok : Words ws = in_range ws p in
    ap (λ (x : ℕ). set ws q (bit_or (get_or ws q 0) x)) one
    ∙ row_packed (length ws) (set ws q v) (union (row ws) (only a)) (length-set ws q v)
    (words_set ws q v ok (or_lt word_bits (get_or ws q 0) (2 ^ b) (ok q) (pow-lt lb)))
    (λ c k. joined ws q b lw lb c ∙ ap (λ (d : ℕ). row ws c || eqb d c) (sym (atom e f)))
  where
    atom : q ≡ a / word_bits → b ≡ a % word_bits → a ≡ q * word_bits + b
    atom e f = omega arith
