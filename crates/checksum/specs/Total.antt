-- A checksum over the entries of an area, in their order.
-- Assumes nothing.
use Rattle.std.specs.Prelude.{List, ℕ, ◌+◌, ◌*◌, ◌/◌, ◌%◌}
use Rattle.std.specs.List.{fold}

-- the largest prime of 16 bits
abbrev pub modulus : ℕ
modulus = 65521

-- the checksum s with the next part of an entry; 31 is the factor between parts
abbrev pub digit : ℕ → ℕ → ℕ
digit s x = (s * 31 + x) % modulus

-- the checksum s with the entry x: its parts to the base of the modulus, the lowest first
unfoldable pub mixed : ℕ → ℕ → ℕ
mixed s x = digit (digit (digit (s % modulus) (x % modulus)) (x / modulus % modulus)) (x / modulus / modulus)

-- the checksum of the entries after s
abbrev pub onward : ℕ → List ℕ → ℕ
onward s xs = fold mixed s xs

-- the checksum of an area, each of its entries by the number that it stands for
abbrev pub total_by : {A : Type 0} → (A → ℕ) → List A → ℕ
total_by number xs = fold (λ s x. mixed s (number x)) 0 xs

-- the checksum of an area of numbers
abbrev pub total : List ℕ → ℕ
total xs = total_by (λ n. n) xs
