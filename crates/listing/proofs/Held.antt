-- How many members a row has below n: whole words, and the low bits of the next.
-- Assumes nothing.
use mathlib.Core.Path.{◌≡◌, sym, ap, ap₂, ◌∙◌}
use mathlib.Core.List.{List}
use Prim.Native.Nat.{ℕ, suc, ◌+◌, ◌-◌, ◌*◌, ◌/◌, ◌%◌, ◌^◌, ◌≤◌, ◌<◌}
use native.Mathlib.Nat.{mod-lt, one-mul, zero-add}
use native.Mathlib.Omega.{arith}
use lib.Dec.{eqb}
use lib.Count.{ones}
use lib.ListN.{length, take, get_or}
use lib.Seq.{length-take-le}
use lib.Pow.{pow_pos, shl_exact, field, mod-mod-pow}
use Rattle.limits.specs.Book.{names, word_bits, row_words}
use Rattle.sets.specs.Set.{count}
use Rattle.sets.proofs.Ranges.{count_add}
use Rattle.sets.proofs.Counting.{count_le, count_same}
use Rattle.areas.specs.Area.{part}
use Rattle.words.specs.Row.{bit, row}
use Rattle.words.proofs.Bits.{ones_count}
use Rattle.words.proofs.Rows.{row_word, row_part}
use Rattle.rows.proofs.Reading.{word_of}
use Rattle.systems.specs.Rounds.{model_in}

-- the low b bits of a word are its bits below b
bit_low : (w b i : ℕ) → i < b → bit (w % 2 ^ b) i ≡ bit w i
unfolding bit
bit_low w b i l =
    let j : ℕ = b - suc i in
    let e : b ≡ (j + 1) + i = omega arith in
    ap (λ (x : ℕ). eqb (x % 2) 1) (ap (λ (k : ℕ). w % 2 ^ k / 2 ^ i) e ∙ field w (j + 1) i)
    ∙ ap (λ (x : ℕ). eqb x 1) (mod-mod-pow (w / 2 ^ i) j 1)

-- so they count as many
ones_low : (w b : ℕ) → ones (w % 2 ^ b) ≡ count b (bit w)
ones_low w b = ones_count b (w % 2 ^ b) (mod-lt w (pow_pos b)) ∙ count_same b (bit (w % 2 ^ b)) (bit w) (bit_low w b)

-- 1 moved up by b bits
one_up : (b : ℕ) → b < word_bits → (1 * 2 ^ b) % 2 ^ word_bits ≡ 2 ^ b
one_up b l = shl_exact 1 b word_bits (omega arith) (omega arith) ∙ one-mul (2 ^ b)

-- the number n stands at bit b of word k
module _ (model : List ℕ) (n k b : ℕ) (e : k ≡ n / word_bits) (f : b ≡ n % word_bits) where
  -- by which the word can be divided
  divides : 0 < (1 * 2 ^ b) % 2 ^ word_bits
  divides = omega (arith, one_up b (omega arith), pow_pos b)

  -- the low bits are few
  low_le : ones (get_or model k 0 % ((1 * 2 ^ b) % 2 ^ word_bits)) ≤ word_bits
  low_le =
      let l : b < word_bits = omega arith in
      omega (
        arith,
        ap (λ (d : ℕ). ones (get_or model k 0 % d)) (one_up b l),
        ones_low (get_or model k 0) b,
        count_le b (bit (get_or model k 0)),
      )

  -- they and the words before make up the count
  module _ (h : n ≤ names) (long : row_words ≤ length model) (whole : ℕ)
      (g : whole ≡ count (length (take k model) * word_bits) (row (take k model))) where
    -- so many words are there
    whole_words : whole ≡ count (k * word_bits) (row (take k model))
    whole_words = g ∙ ap (λ (j : ℕ). count (j * word_bits) (row (take k model))) (length-take-le k model (omega arith))

    pub count_small : whole + ones (get_or model k 0 % ((1 * 2 ^ b) % 2 ^ word_bits)) ≤ names + word_bits
    count_small = omega (arith, low_le, whole_words, count_le (k * word_bits) (row (take k model)))

    pub count_held : whole + ones (get_or model k 0 % ((1 * 2 ^ b) % 2 ^ word_bits)) ≡ count n (model_in model)
    count_held =
        let l : b < word_bits = omega arith in
        let m : k < row_words = omega arith in
        let at : k * word_bits + b ≡ n = omega arith in
        ap₂ ◌+◌
        (whole_words ∙ count_same (k * word_bits) (row (take k model)) (model_in model) words)
        (ap (λ (d : ℕ). ones (get_or model k 0 % d)) (one_up b l) ∙ ones_low (get_or model k 0) b
        ∙ count_same b (bit (get_or model k 0)) (λ i. model_in model (k * word_bits + i)) (bits l m))
        ∙ sym (count_add (k * word_bits) b (model_in model)) ∙ ap (λ (x : ℕ). count x (model_in model)) at
      where
        words : (a : ℕ) → a < k * word_bits → row (take k model) a ≡ model_in model a
        words a l = row_part 0 k model a l ∙ sym (row_part 0 row_words model a (omega arith))

        bits : b < word_bits → k < row_words → (i : ℕ) → i < b → bit (get_or model k 0) i ≡ model_in model (k * word_bits + i)
        bits l m i c =
            sym
            (row_word (part 0 row_words model) k i (omega arith)
            ∙ ap (λ (x : ℕ). bit x i) (word_of 0 row_words model k m ∙ ap (λ (x : ℕ). get_or model x 0) (zero-add k)))
