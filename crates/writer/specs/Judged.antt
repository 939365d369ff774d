-- What is judged before anything is written.
-- Assumes nothing.
use Rattle.std.specs.Prelude.{◌||◌, List, ℕ, eqb, ltb}
use Rattle.limits.specs.Book.{text_bytes}
use Rattle.sets.specs.Set.{pick}
use Rattle.grammar.specs.Bytes.{letters}
use Rattle.grammar.specs.Letters.{letters_cause}
use Rattle.tables.specs.Areas.{Areas, rules_of, short}
use Rattle.tables.specs.Writing.{well_formed}
use Rattle.tablecheck.specs.declared.Tables.{Tables}

-- lent areas with n names and m rules
abbrev pub counted : Areas → ℕ → ℕ → Tables
counted o n m = record { names = record { area = o.spellings; count = n }; rules = record { tables = rules_of o; count = m } }

-- the number of what is at fault, the text itself aside, where its area has `room` bytes: 0 where nothing is
unfoldable pub write_cause : List ℕ → Areas → ℕ → ℕ → ℕ → ℕ
write_cause table o n m room =
    let cause : ℕ = letters_cause (short o || ltb room text_bytes) table in
    pick (eqb cause 0) (pick (well_formed (letters table) o n m) 0 10) cause
