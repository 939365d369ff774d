-- The lent areas: what a book's tables are in them.
-- Assumes nothing.
use Rattle.std.specs.Prelude.{Bool, not, ◌&&◌, ◌||◌, List, [], ◌∷◌, ◌++◌, map, ℕ, zero, suc, ◌-◌, ◌*◌, eqb, leb, ltb, length, get_or, replicate}
use Rattle.limits.specs.Book.{names, name_bytes, rules, body_words, name_area, body_area}
use Rattle.sets.specs.Set.{pick}
use Rattle.areas.specs.Area.{part, filled}
use Rattle.words.specs.Row.{row, pack}
use Rattle.program.specs.Program.{Rule, Program}
use Rattle.grammar.specs.Bytes.{Bytes, letters}
use Rattle.grammar.specs.Letters.{letters_cause}
use Rattle.grammar.specs.Grammar.{Clause}
use Rattle.grammar.specs.Lines.{run}
use Rattle.tables.specs.Numbering.{names_of, numbered}
use Rattle.tables.specs.Reading.{Reading, read, refused, reading}

-- a name area, its heads and its bodies
pub record Areas : Type 0 where
  pub spellings : Bytes
  pub heads : List ℕ
  pub bodies : List ℕ

-- the heads and the bodies of the rules, as the calls on rules take them
pub record RuleTables : Type 0 where
  pub heads : List ℕ
  pub bodies : List ℕ

-- how many names and rules are in use
pub record Counts : Type 0 where
  pub names : ℕ
  pub rules : ℕ

-- those of a book
abbrev pub counts_of : List Clause → Counts
counts_of cs = record { names = length (names_of cs); rules = length cs }

-- heads and bodies as one
abbrev pub rule_tables : List ℕ → List ℕ → RuleTables
rule_tables heads bodies = record { heads = heads; bodies = bodies }

-- the rules' part of the areas
abbrev pub rules_of : Areas → RuleTables
rules_of o = record { heads = o.heads; bodies = o.bodies }

-- a name's row: "each name padded with zeros"
unfoldable pub padded : Bytes → List ℕ
padded n = n ++ replicate (name_bytes - length n) 0

unfoldable pub name_rows : List Bytes → List ℕ
name_rows [] = []
name_rows (n ∷ ns) = padded n ++ name_rows ns

unfoldable pub head_rows : List (Rule ℕ) → List ℕ
head_rows [] = []
head_rows (r ∷ rs) = r.head ∷ head_rows rs

unfoldable pub body_rows : List (Rule ℕ) → List ℕ
body_rows [] = []
body_rows (r ∷ rs) = pack body_words r.body ++ body_rows rs

-- areas filled with names and rules
unfoldable pub filled_with : List Bytes → List (Rule ℕ) → Areas → Areas
filled_with ns rs old =
    record {
      spellings = filled name_area (name_rows ns) old.spellings;
      heads = filled rules (head_rows rs) old.heads;
      bodies = filled body_area (body_rows rs) old.bodies;
    }

-- the tables of a book
unfoldable pub tables_of : List Clause → Areas → Areas
tables_of cs old = filled_with (names_of cs) (map (numbered (names_of cs)) cs) old

-- an area shorter than its stated size
unfoldable pub short : Areas → Bool
short o = ltb (length o.spellings) name_area || (ltb (length o.heads) rules || ltb (length o.bodies) body_area)

-- what the reader returns
pub record Answer : Type 0 where
  pub number : ℕ
  pub line : ℕ
  pub names : ℕ
  pub rules : ℕ

pub record Outcome : Type 0 where
  pub answer : Answer
  pub areas : Areas

-- a refusal: with a line, names and rules are zero; else all is as it was
unfoldable pub refusal : ℕ → ℕ → Areas → Outcome
refusal k line old =
    record {
      answer = record { number = k; line = line; names = 0; rules = 0 };
      areas = pick (eqb line 0) old (filled_with [] [] old);
    }

-- what a reading answers and leaves
unfoldable pub outcome : Reading → Areas → Outcome
outcome (refused k line) old = refusal k line old
outcome (read cs) old =
    record {
      answer = record { number = 0; line = 0; names = length (names_of cs); rules = length cs };
      areas = tables_of cs old;
    }

-- the reader, lent a folding table: areas too short and the table come first, then the text by the table's letters
unfoldable pub read_call : List ℕ → Bytes → Areas → Outcome
read_call table t old =
    let cause : ℕ = letters_cause (short old) table in
    pick (eqb cause 0) (outcome (reading (letters table) t) old) (refusal cause 0 old)

-- a byte that is not zero
unfoldable pub nonzero : ℕ → Bool
nonzero b = not (eqb b 0)

-- name a of a name area, without padding: up to its first zero byte, or all 32
unfoldable pub name_at : Bytes → ℕ → Bytes
name_at area a = run nonzero (part (a * name_bytes) name_bytes area)

-- the look-up: the empty part for a number not below the count, a count over 128 or an area under 4,096 bytes
unfoldable pub look_up : Bytes → ℕ → ℕ → Bytes
look_up area n a = pick (ltb a n && (leb n names && leb name_area (length area))) (name_at area a) []

-- the k names from a on
unfoldable pub names_from : Bytes → ℕ → ℕ → List Bytes
names_from area zero a = []
names_from area (suc k) a = name_at area a ∷ names_from area k (suc a)

-- the first n names of an area
abbrev pub names_in : Bytes → ℕ → List Bytes
names_in area n = names_from area n 0

-- rule j of the tables
unfoldable pub rule_at : RuleTables → ℕ → Rule ℕ
rule_at tables j = record { head = get_or tables.heads j 0; body = row (part (j * body_words) body_words tables.bodies) }

-- the k rules from j on
unfoldable pub rules_from : RuleTables → ℕ → ℕ → List (Rule ℕ)
rules_from tables zero j = []
rules_from tables (suc k) j = rule_at tables j ∷ rules_from tables k (suc j)

-- the first m rules of the tables
abbrev pub rules_in : RuleTables → ℕ → List (Rule ℕ)
rules_in tables m = rules_from tables m 0

-- the program that the counted names and rules of the tables give
abbrev pub program_in : RuleTables → Counts → Program
program_in tables counts = record { names = counts.names; rules = rules_in tables counts.rules }
