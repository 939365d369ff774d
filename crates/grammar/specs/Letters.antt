-- A folding table as it is lent, and what is judged of it. Document 02, 2.9: "Byte 0, the blanks, 0x0A, 0x0D and `:`, `#`, `!`, `@` must have
-- entry 0. A non-zero entry must be its own entry." Proved in proofs/Letters.antt.
-- Assumes nothing.
use Rattle.std.specs.Prelude.{◌≡◌, Bool, true, not, ◌&&◌, ◌||◌, ◌↔◌, List, [], ◌∷◌, ℕ, zero, suc, ◌≤◌, eqb, ltb, length}
use Rattle.limits.specs.Book.{letter_bytes}
use Rattle.sets.specs.Set.{pick, exists}
use Rattle.grammar.specs.Bytes.{Folding, reserved, letters, our_letters}

-- a table that passes: of 256 bytes or more, "one for each byte value", whose letters obey the rule of a folding
abbrev pub FoldTable : List ℕ → Type 0
FoldTable table = (letter_bytes ≤ length table) × Folding (letters table)

-- 20: "a reserved byte has an entry"
abbrev pub ReservedEntry : List ℕ → Type 0
ReservedEntry table = (b : ℕ) × (reserved b ≡ true) × (letters table b ≡ 0 → ⊥)

-- 21: "an entry is not its own", one that is not zero
abbrev pub UnsettledEntry : List ℕ → Type 0
UnsettledEntry table = (b : ℕ) × (letters table b ≡ 0 → ⊥) × (letters table (letters table b) ≡ letters table b → ⊥)

-- a number that a call with a lent table returns, by what is judged first; `long` is that every other lent area has its stated size
pub record LettersJudged (long : Type 0) (table : List ℕ) (number : ℕ) : Type 0 where
  pub short : (number ≡ 1) ↔ (long × (letter_bytes ≤ length table) → ⊥)
  pub reserved : (number ≡ 20) ↔ (long × (letter_bytes ≤ length table) × ReservedEntry table)
  pub unsettled : (number ≡ 21) ↔ (long × (letter_bytes ≤ length table) × (ReservedEntry table → ⊥) × UnsettledEntry table)

-- The same, computed.

-- byte b has an entry
abbrev pub has_entry : List ℕ → ℕ → Bool
has_entry table b = not (eqb (letters table b) 0)

-- some reserved byte has an entry
unfoldable pub any_reserved : List ℕ → Bool
any_reserved table = exists letter_bytes (λ b. reserved b && has_entry table b)

-- some entry, not zero, is not its own
unfoldable pub any_unsettled : List ℕ → Bool
any_unsettled table = exists letter_bytes (λ b. has_entry table b && not (eqb (letters table (letters table b)) (letters table b)))

-- the number under which a table of 256 bytes or more is refused, 0 for none
unfoldable pub table_cause : List ℕ → ℕ
table_cause table = pick (any_reserved table) 20 (pick (any_unsettled table) 21 0)

-- what a call that is lent a table judges first, 0 for none: 1, 20, 21; `short` is whether another lent area is too short
unfoldable pub letters_cause : Bool → List ℕ → ℕ
letters_cause short table = pick (short || ltb (length table) letter_bytes) 1 (table_cause table)

-- Our table.

-- the entries of so many bytes from b on
unfoldable pub entries_from : (ℕ → ℕ) → ℕ → ℕ → List ℕ
entries_from fold zero b = []
entries_from fold (suc k) b = fold b ∷ entries_from fold k (suc b)

-- document 01's letters as a table: what the call for C and the lister go by
unfoldable pub our_table : List ℕ
our_table = entries_from our_letters letter_bytes 0
