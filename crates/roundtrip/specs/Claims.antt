-- Demand 1 for the writer, and demand 2 between tables and text. Proved in proofs/Theorems.antt, Judging.antt and Calls.antt.
-- Assumes nothing.
use Rattle.std.specs.Prelude.{◌≡◌, true, false, ◌⊎◌, ◌↔◌, List, ◌++◌, ℕ, ◌≤◌, ◌<◌, length, take, drop}
use Rattle.limits.specs.Book.{text_bytes, rules, name_area, body_area}
use Rattle.limits.specs.Cause.{OneOf, write_causes}
use Rattle.words.specs.Row.{Words}
use Rattle.grammar.specs.Bytes.{Bytes, letters, all_of}
use Rattle.grammar.specs.Letters.{FoldTable, LettersJudged}
use Rattle.grammar.specs.Grammar.{Clause}
use Rattle.tables.specs.Numbering.{names_of}
use Rattle.tables.specs.Reading.{book_of, read}
use Rattle.areas.specs.Area.{filled}
use Rattle.tables.specs.Areas.{Areas, rules_of, short, tables_of, name_at, names_in, rules_in, read_call}
use Rattle.tables.specs.Writing.{Readable, own, well_formed, written, Written, unwritten, write_call}
use Rattle.tables.specs.Claims.{accepted}

-- the written text of the tables
abbrev pub written_text : Areas → ℕ → ℕ → Bytes
written_text o n m = written (names_in o.spellings n) (rules_in (rules_of o) m)

-- the text reads to the tables: n names, m rules, and every word of the three areas over their stated sizes
pub record ReadsTo (fold : ℕ → ℕ) (t : Bytes) (o : Areas) (n m : ℕ) : Type 0 where
  pub cs : List Clause
  pub reads : book_of fold t ≡ read cs
  pub count : n ≡ length (names_of cs)
  pub size : m ≡ length cs
  pub tables : o ≡ tables_of cs o

-- areas of at least the stated sizes, whose body words are in range, as those of every lent area are
abbrev pub Lent : Areas → Type 0
Lent o = (short o ≡ false) × Words o.bodies

pub record RoundTrip (fold : ℕ → ℕ) : Type 0 where
  -- tables pass the test exactly where some book, of any length, reads to them
  pub exact : (o : Areas) (n m : ℕ) → Lent o → (well_formed fold o n m ≡ true) ↔ Readable fold o n m
  -- the written text reads back to the same tables
  pub back : (o : Areas) (n m : ℕ) → Lent o → well_formed fold o n m ≡ true → ReadsTo fold (written_text o n m) o n m
  -- the tables of a text that is read are in order, and their written text is no longer than it: 12 cannot occur
  pub again : (t : Bytes) (cs : List Clause) (old : Areas) → book_of fold t ≡ read cs
      → (well_formed fold (tables_of cs old) (length (names_of cs)) (length cs) ≡ true)
      × (length (written_text (tables_of cs old) (length (names_of cs)) (length cs)) ≤ length t)

-- the tables of o over the stated sizes, and past them what old has
unfoldable pub over : Areas → Areas → Areas
over o old =
    record {
      spellings = take name_area o.spellings ++ drop name_area old.spellings;
      heads = take rules o.heads ++ drop rules old.heads;
      bodies = take body_area o.bodies ++ drop body_area old.bodies;
    }

-- what the writer returns and leaves where it accepts
abbrev pub wrote : ℕ → Bytes → Written
wrote size text = record { number = 0; size = size; text = text }

-- areas of their stated sizes, or longer, the text area too
abbrev pub WriteLong : Areas → Bytes → Type 0
WriteLong o area =
    (name_area ≤ length o.spellings) × (rules ≤ length o.heads) × (body_area ≤ length o.bodies) × (text_bytes ≤ length area)

-- so are they, and the folding table passes
abbrev pub WriteReady : List ℕ → Areas → Bytes → Type 0
WriteReady table o area = WriteLong o area × FoldTable table

-- demand 1 for the writer: each number exactly where documents 01 and 02 give it, and what is left then; r is what the call returns and leaves
pub record WriteJudges (table : List ℕ) (o : Areas) (n m : ℕ) (area : Bytes) (r : Written) : Type 0 where
  pub accepts : (r.number ≡ 0)
      ↔ (WriteReady table o area × Readable (letters table) o n m × (length (written_text o n m) ≤ text_bytes))
  -- 1, 20, 21
  pub letters_judged : LettersJudged (WriteLong o area) table r.number
  -- "exactly when no book, were its length free, reads to these tables"
  pub ill_formed : (r.number ≡ 10) ↔ (WriteReady table o area × (Readable (letters table) o n m → ⊥))
  pub long_text : (r.number ≡ 12)
      ↔ (WriteReady table o area × Readable (letters table) o n m × (text_bytes < length (written_text o n m)))
  -- 0 and these are all its numbers
  pub no_other : (r.number ≡ 0) ⊎ OneOf r.number write_causes
  -- on acceptance the text and its size; "zero after the text", and what lies past the stated size as it was
  pub left : r.number ≡ 0 → r ≡ wrote (length (written_text o n m)) (filled text_bytes (written_text o n m) area)
  -- on every refusal all as it was
  pub kept : OneOf r.number write_causes → r ≡ unwritten r.number area

-- each of the first n names is made of bytes that are their own entries
abbrev pub OwnNames : (ℕ → ℕ) → Areas → ℕ → Type 0
OwnNames fold o n = (a : ℕ) → a < n → all_of (own fold) (name_at o.spellings a) ≡ true

-- demands 1 and 2 for the two calls, with any table lent
pub record WriteCalls (table : List ℕ) : Type 0 where
  -- reading what was written, into any areas, gives the same counts and tables
  pub written_read : (o old : Areas) (n m size : ℕ) (area text : Bytes) → Words o.bodies → short old ≡ false
      → write_call table o n m area ≡ wrote size text → read_call table (take size text) old ≡ accepted n m (over o old)
  -- the tables of a text that was read are written, in no more bytes than it has, so that neither 10 nor 12 can occur; and read back
  pub read_written : (t area : Bytes) (old o : Areas) (n m : ℕ) → Words old.bodies → text_bytes ≤ length area
      → read_call table t old ≡ accepted n m o
      → (size : ℕ) × (text : Bytes) × (write_call table o n m area ≡ wrote size text) × (size ≤ length t)
      × ((other : Areas) → short other ≡ false → read_call table (take size text) other ≡ accepted n m (over o other))
  -- read under this table and written under another that passes: written exactly where each name is made of bytes that are their own there, else 10
  pub across : (t area : Bytes) (old o : Areas) (n m : ℕ) (another : List ℕ) → Words old.bodies → text_bytes ≤ length area
      → FoldTable another → read_call table t old ≡ accepted n m o
      → (((write_call another o n m area).number ≡ 0) ↔ OwnNames (letters another) o n)
      × (((write_call another o n m area).number ≡ 10) ↔ (OwnNames (letters another) o n → ⊥))
  -- every number of the writer, for body words in range, as those of every lent area are
  pub judges : (o : Areas) (n m : ℕ) (area : Bytes) → Words o.bodies → WriteJudges table o n m area (write_call table o n m area)
