-- The first atom of a row at or past a place: it is in the rest of the place's word, or at or past the next word.
-- Assumes nothing.
use Rattle.std.proofs.Common.{◌≡◌, sym, ap, ◌∙◌, false, ℕ, ◌+◌, ◌-◌, ◌*◌, ◌/◌, ◌%◌, ◌^◌, ◌≤◌, ◌<◌, List, length, slice_index_or, Fits, w64, arith}
use lib.Count.{count_trailing_zeros, trailing_le}
use lib.Dec.{ltb}
use lib.Pow.{shr_le}
use borrow.Author.Tests.{ltb-true, ltb-false}
use Rattle.limits.specs.Book.{word_bits}
use Rattle.sets.specs.Set.{Set, next}
use Rattle.words.specs.Row.{bit, row}
use Rattle.sets.proofs.Logic.{either, clash}
use Rattle.sets.proofs.Walk.{Following, next_spec, next_unique}
use Rattle.words.proofs.Bits.{bit_zero, bit_shr, bit_high, trailing_next, trailing_lt}
use Rattle.words.proofs.Rows.{row_word}
use Rattle.rows.proofs.Reading.{Known}

-- the zeros below a word's lowest bit are few
pub trailing_fits : (x : ℕ) → Fits w64 (count_trailing_zeros word_bits x)
trailing_fits x = record { fits = omega (arith, trailing_le word_bits x) }

-- a place at the end has nothing past it
pub walk_end : (n i r : ℕ) (f : Set) → i ≤ n → n ≤ i → next (n - i) f i ≡ r → i ≡ r
unfolding next
walk_end n i r f l m e = ap (λ (k : ℕ). next k f i) (none i n m) ∙ e
  where
    none : (i n : ℕ) → n ≤ i → 0 ≡ n - i
    none i n m = omega arith

-- place i is bit b of word k of the row
module _ (ws : List ℕ) (p : Known ws) (k b i : ℕ) (ek : k ≡ i / word_bits) (eb : b ≡ i % word_bits)
    (l : i < length ws * word_bits) where
  abbrev f : Set
  f = row ws

  abbrev rest : ℕ
  rest = slice_index_or ws k 0 / 2 ^ b

  rest_lt : rest < 2 ^ word_bits
  rest_lt = omega (arith, shr_le (slice_index_or ws k 0) b, (p k).fits)

  -- the bits of the rest are the atoms from i to the end of the word, and no more
  rest_bit : (j : ℕ) → b + j < word_bits → f (i + j) ≡ bit rest j
  rest_bit j m =
      let e : i + j ≡ k * word_bits + (b + j) = omega arith in
      ap (row ws) e ∙ row_word ws k (b + j) m ∙ sym (bit_shr (slice_index_or ws k 0) b j)

  rest_high : (j : ℕ) → word_bits ≤ b + j → bit rest j ≡ false
  rest_high j m = bit_shr (slice_index_or ws k 0) b j ∙ bit_high word_bits (slice_index_or ws k 0) (b + j) (p k).fits m

  -- a rest that is not zero has its lowest bit within the word
  module _ (h : rest ≡ 0 → ⊥) where
    abbrev t : ℕ
    t = count_trailing_zeros word_bits rest

    first : Following word_bits (bit rest) 0 t
    first = rw (trailing_next word_bits rest) (next_spec word_bits (bit rest) 0)

    low : t < word_bits
    low = trailing_lt word_bits rest rest_lt h

    here : b + t < word_bits
    here =
        either (ltb (b + t) word_bits) (λ e. ltb-true (b + t) word_bits e)
        (λ e. clash (first.1 low) (rest_high t (ltb-false (b + t) word_bits e)))

    -- so it is the first atom at or past i
    pub found : i + t ≡ next (length ws * word_bits - i) f i
    found =
        next_unique (length ws * word_bits - i) f i (i + t) (omega arith) (omega (arith, here))
        before (λ m. rest_bit t here ∙ first.1 low)
      where
        before : (j : ℕ) → i ≤ j → j < i + t → f j ≡ false
        before j g m =
            let e : j ≡ i + (j - i) = omega arith in
            ap f e ∙ rest_bit (j - i) (omega (arith, here)) ∙ first.0 (j - i) (omega arith) (omega arith)

    pub found_within : i + t < length ws * word_bits
    found_within = omega (arith, here)

    pub found_fits : length ws * word_bits < 2 ^ 64 → Fits w64 (i + t)
    found_fits r = record { fits = omega (arith, here) }

  -- past a rest that is zero, the search goes on at the next word
  pub skip : rest ≡ 0 → next (length ws * word_bits - (k + 1) * word_bits) f ((k + 1) * word_bits) ≡ next (length ws * word_bits - i) f i
  skip z =
      let s : ℕ = (k + 1) * word_bits in
      let r : ℕ = next (length ws * word_bits - s) f s in
      let q : Following (length ws * word_bits - s) f s r = next_spec (length ws * word_bits - s) f s in
      next_unique (length ws * word_bits - i) f i r (omega (arith, q.2)) (omega (arith, q.3))
      (λ j g m.
      either (ltb j s)
      (λ e.
      let d : j < s = ltb-true j s e in
      let t : j ≡ i + (j - i) = omega arith in
      ap f t ∙ rest_bit (j - i) (omega arith) ∙ ap (λ (x : ℕ). bit x (j - i)) z ∙ bit_zero (j - i))
      (λ e. q.0 j (ltb-false j s e) m))
      (λ m. q.1 (omega arith))
