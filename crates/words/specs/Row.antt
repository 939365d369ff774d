-- A row is a run of 64-bit words, read as a set: atom a is bit a mod 64 (lowest is 0) of word a div 64.
-- Assumes nothing.
use Rattle.std.specs.Prelude.{List, [], ◌∷◌, ℕ, zero, suc, ◌+◌, ◌*◌, ◌/◌, ◌%◌, ◌^◌, ◌<◌, eqb, get_or}
use Rattle.sets.specs.Set.{Set, one}
use Rattle.limits.specs.Book.{word_bits}

-- bit i of the word w, as a set of bits
unfoldable pub bit : ℕ → Set
bit w i = eqb (w / 2 ^ i % 2) 1

-- the row's words as a set of atoms
unfoldable pub row : List ℕ → Set
row ws a = bit (get_or ws (a / word_bits) 0) (a % word_bits)

-- every word is in range
abbrev pub Words : List ℕ → Type 0
Words ws = (k : ℕ) → get_or ws k 0 < 2 ^ word_bits

-- the number whose k low bits are the members of f
unfoldable pub binary : ℕ → Set → ℕ
binary zero f = zero
binary (suc k) f = one (f k) * 2 ^ k + binary k f

-- the w words that hold the set f
unfoldable pub pack : ℕ → Set → List ℕ
pack zero f = []
pack (suc w) f = binary word_bits f ∷ pack w (λ a. f (word_bits + a))
