-- Our letters in a lent area, for hosts that lend the table on: what the call returns and leaves, and what is claimed of it. Document 02, 2.2:
-- "for each of the 256 byte values it is the entry of document 01". Proved in proofs/Fill.antt.
-- Assumes nothing.
use Rattle.std.specs.Prelude.{◌≡◌, ◌⊎◌, ◌↔◌, List, ℕ, ◌≤◌, ◌<◌, ltb, length, get_or, drop}
use Rattle.limits.specs.Book.{letter_bytes}
use Rattle.limits.specs.Cause.{OneOf, fill_causes}
use Rattle.sets.specs.Set.{pick}
use Rattle.areas.specs.Area.{begun}
use Rattle.grammar.specs.Bytes.{letters, our_letters}
use Rattle.grammar.specs.Letters.{FoldTable, our_table}

-- the number that the call returns, and the area after it
pub record FillOutcome : Type 0 where
  pub number : ℕ
  pub area : List ℕ

-- 1 for an area under 256 bytes, which stays as it was; else our table, and what lies past it as it was
unfoldable pub fill_call : List ℕ → FillOutcome
fill_call old =
    pick (ltb (length old) letter_bytes) (record { number = 1; area = old }) (record { number = 0; area = begun our_table old })

-- demands 1 and 2 for the call: r is what it returns and leaves
pub record Fills (old : List ℕ) (r : FillOutcome) : Type 0 where
  pub accepts : (r.number ≡ 0) ↔ (letter_bytes ≤ length old)
  pub short : (r.number ≡ 1) ↔ (length old < letter_bytes)
  -- 0 and these are all its numbers
  pub no_other : (r.number ≡ 0) ⊎ OneOf r.number fill_causes
  pub kept : (r.number ≡ 0 → ⊥) → r.area ≡ old
  -- the area is as long as it was, each byte value has document 01's entry, and what lies past them is as it was
  pub size : length r.area ≡ length old
  pub entries : r.number ≡ 0 → (b : ℕ) → b < letter_bytes → get_or r.area b 0 ≡ our_letters b
  pub past : r.number ≡ 0 → drop letter_bytes r.area ≡ drop letter_bytes old
  -- so the area can be lent on: it passes, and its letters are document 01's
  pub passes : r.number ≡ 0 → FoldTable r.area × (letters r.area ≡ our_letters)
