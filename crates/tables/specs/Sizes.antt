-- What lies past the stated sizes of the areas that the reader and the writer are lent. Document 01: "what lies past the sizes above is
-- untouched". Proved in proofs/Sizes.antt.
-- Assumes nothing.
use Rattle.std.specs.Prelude.{◌≡◌, List, ◌++◌, ℕ, take, drop}
use Rattle.limits.specs.Book.{text_bytes, letter_bytes, rules, name_area, body_area}
use Rattle.grammar.specs.Bytes.{Bytes}
use Rattle.tables.specs.Areas.{Areas, RuleTables, Outcome, read_call}
use Rattle.tables.specs.Writing.{Written, write_call}

-- names and rules, cut to their stated sizes
abbrev pub stated_tables : Areas → Areas
stated_tables o =
    record { spellings = take name_area o.spellings; heads = take rules o.heads; bodies = take body_area o.bodies }

-- rules alone, cut so
abbrev pub stated_rules : RuleTables → RuleTables
stated_rules tables = record { heads = take rules tables.heads; bodies = take body_area tables.bodies }

-- areas s that were cut so, with what was cut off o put after
abbrev pub tables_with_rest : Areas → Areas → Areas
tables_with_rest o s =
    record {
      spellings = s.spellings ++ drop name_area o.spellings;
      heads = s.heads ++ drop rules o.heads;
      bodies = s.bodies ++ drop body_area o.bodies;
    }

-- what the reader returns and leaves of areas cut so, with what was cut off put after
abbrev pub read_with_rest : Areas → Outcome → Outcome
read_with_rest o r = record { answer = r.answer; areas = tables_with_rest o r.areas }

-- the same for the writer and its text area
abbrev pub written_with_rest : Bytes → Written → Written
written_with_rest area r = record { number = r.number; size = r.size; text = r.text ++ drop text_bytes area }

-- what lies past the stated sizes is neither judged nor touched: each call is the call on areas cut to them, with the rest put after; and it
-- goes by the first 256 bytes of the folding table alone
pub record TableSizes (table : List ℕ) : Type 0 where
  pub reader : (t : Bytes) (old : Areas)
      → read_call table t old ≡ read_with_rest old (read_call (take letter_bytes table) t (stated_tables old))
  pub writer : (o : Areas) (n m : ℕ) (area : Bytes)
      → write_call table o n m area ≡ written_with_rest area (write_call (take letter_bytes table) (stated_tables o) n m (take text_bytes area))
