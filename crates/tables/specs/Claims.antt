-- What is claimed of reading and numbering. The theorems are in proofs/Theorems.antt.
-- Assumes nothing.
use Rattle.std.specs.Prelude.{◌≡◌, ◌⊎◌, ◌↔◌, false, List, [], ◌∷◌, ◌++◌, ℕ, ◌<◌, ◌≤◌, length, get_or, drop, replicate}
use Rattle.limits.specs.Book.{text_bytes, rules, name_area, body_area}
use Rattle.limits.specs.Cause.{OneOf, fault_causes, letter_causes, line_causes, kept_causes, read_causes}
use Rattle.program.specs.Program.{WellFormed}
use Rattle.grammar.specs.Bytes.{Bytes, Among, letters}
use Rattle.grammar.specs.Letters.{FoldTable, LettersJudged}
use Rattle.grammar.specs.Grammar.{Clause}
use Rattle.tables.specs.Numbering.{place, standing, names_of, program_of}
use Rattle.tables.specs.Reading.{read, refused, book_of, reading, Book, FirstFault, Refusal}
use Rattle.tables.specs.Areas.{Areas, Outcome, short, tables_of, refusal, read_call}

-- texts are accepted and refused as the grammar says, whatever their length
pub record Judged (fold : ℕ → ℕ) : Type 0 where
  pub accepted : (t : Bytes) (cs : List Clause) → (book_of fold t ≡ read cs) ↔ Book fold t cs
  pub refuses : (t : Bytes) (k line : ℕ) → (book_of fold t ≡ refused k line) ↔ Refusal fold t k line

-- the text is refused under number k with that line: 2 beyond 16,384 bytes, else as the grammar says
abbrev pub Refuses : (ℕ → ℕ) → Bytes → ℕ → ℕ → Type 0
Refuses fold t k line =
    ((text_bytes < length t) × (k ≡ 2) × (line ≡ 0)) ⊎ ((length t ≤ text_bytes) × Refusal fold t k line)

-- demand 1 for reading
pub record Reads (fold : ℕ → ℕ) : Type 0 where
  pub accepts : (t : Bytes) (cs : List Clause) → (reading fold t ≡ read cs) ↔ ((length t ≤ text_bytes) × Book fold t cs)
  pub refuses : (t : Bytes) (k line : ℕ) → (reading fold t ≡ refused k line) ↔ Refuses fold t k line

-- what the reader returns and leaves where it accepts
abbrev pub accepted : ℕ → ℕ → Areas → Outcome
accepted n m o = record { answer = record { number = 0; line = 0; names = n; rules = m }; areas = o }

-- a refusal: its number, its line, no names and no rules, and the areas as they are left
abbrev pub refused_with : ℕ → ℕ → Areas → Outcome
refused_with k line left = record { answer = record { number = k; line = line; names = 0; rules = 0 }; areas = left }

-- names and rules zero over their stated sizes, and what lies past these as it was
abbrev pub zeroed : Areas → Areas
zeroed old =
    record {
      spellings = replicate name_area 0 ++ drop name_area old.spellings;
      heads = replicate rules 0 ++ drop rules old.heads;
      bodies = replicate body_area 0 ++ drop body_area old.bodies;
    }

-- "Returned" and "Left" of document 01's table and of document 02, by number: r is what the reader returns and leaves of the areas old
pub record ReadLeaves (old : Areas) (r : Outcome) : Type 0 where
  -- 0 and these are all its numbers
  pub no_other : (r.answer.number ≡ 0) ⊎ OneOf r.answer.number read_causes
  -- a line comes with exactly these
  pub lined : (r.answer.line ≡ 0 → ⊥) ↔ OneOf r.answer.number line_causes
  -- "number, zeros", "all as it was"
  pub kept : OneOf r.answer.number kept_causes → r ≡ refused_with r.answer.number 0 old
  -- "number, line", "names, rules zero"
  pub cleared : OneOf r.answer.number line_causes → r ≡ refused_with r.answer.number r.answer.line (zeroed old)

-- demands 1 and 2 for the reader's call, with any table lent
pub record ReadCalls (table : List ℕ) : Type 0 where
  -- under a table that passes it accepts exactly the books of the grammar within the limits, and leaves exactly their tables
  pub accepts : (t : Bytes) (old o : Areas) (n m : ℕ) → (read_call table t old ≡ accepted n m o)
      ↔ ((cs : List Clause) × (short old ≡ false) × FoldTable table × (length t ≤ text_bytes) × Book (letters table) t cs
      × (n ≡ length (names_of cs)) × (m ≡ length cs) × (o ≡ tables_of cs old))
  -- it refuses first for its areas and the table
  pub letters_judged : (t : Bytes) (old : Areas) → LettersJudged (short old ≡ false) table (read_call table t old).answer.number
  -- else under the number and the line of the first cause
  pub refuses : (t : Bytes) (old : Areas) (k line : ℕ) → (k ≡ 0 → ⊥) → (OneOf k letter_causes → ⊥)
      → (((read_call table t old).answer.number ≡ k) × ((read_call table t old).answer.line ≡ line))
      ↔ ((short old ≡ false) × FoldTable table × Refuses (letters table) t k line)
  -- 5, 13 and 14: each exactly where the first line that is refused has that fault
  pub faults : (t : Bytes) (old : Areas) (k line : ℕ) → OneOf k fault_causes
      → (((read_call table t old).answer.number ≡ k) × ((read_call table t old).answer.line ≡ line))
      ↔ ((short old ≡ false) × FoldTable table × (length t ≤ text_bytes) × FirstFault (letters table) t k line)
  -- and returns and leaves what documents 01 and 02 say of that number
  pub leaves : (t : Bytes) (old : Areas) → ReadLeaves old (read_call table t old)
  -- every call is one or the other
  pub every_call : (t : Bytes) (old : Areas) → ((n : ℕ) × (m : ℕ) × (o : Areas) × (read_call table t old ≡ accepted n m o))
      ⊎ ((k : ℕ) × (line : ℕ) × (k ≡ 0 → ⊥) × (read_call table t old ≡ refusal k line old))

-- numbering is by first appearance, one to one and onto the names that stand in the book
pub record Numbers (cs : List Clause) : Type 0 where
  pub stands : (a : ℕ) → a < length (names_of cs) → Among (get_or (names_of cs) a []) (standing cs)
  pub number : (a : ℕ) → a < length (names_of cs) → place (names_of cs) (get_or (names_of cs) a []) ≡ a
  pub below : (x : Bytes) → Among x (standing cs) → place (names_of cs) x < length (names_of cs)
  pub name : (x : Bytes) → Among x (standing cs) → get_or (names_of cs) (place (names_of cs) x) [] ≡ x
  pub earlier : (xs ys : List Bytes) (x y : Bytes) → standing cs ≡ xs ++ (y ∷ ys) → Among x xs → (Among y xs → ⊥)
      → place (names_of cs) x < place (names_of cs) y
  pub formed : WellFormed (program_of cs)
