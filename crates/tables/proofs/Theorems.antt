-- The theorems of reading and numbering: see specs/Claims.antt.
-- Assumes nothing.
use mathlib.Core.Path.{◌≡◌}
use mathlib.Core.List.{List, [], ◌∷◌}
use Prim.Native.Nat.{ℕ, ◌<◌, ◌≤◌}
use lib.ListN.{length, get_or}
use Rattle.limits.specs.Book.{names, rules}
use Rattle.grammar.specs.Bytes.{Bytes, Folding, letters, Among}
use Rattle.grammar.specs.Grammar.{Clause, rule}
use Rattle.grammar.specs.Lines.{form_of}
use Rattle.grammar.proofs.Theorems.{classified, cut}
use Rattle.tables.specs.Numbering.{standing, names_of}
use Rattle.tables.specs.Reading.{read, book_of}
use Rattle.tables.specs.Claims.{Judged, Reads, ReadCalls}
pub use Rattle.tables.proofs.Numbering.{numbers}
use Rattle.tables.proofs.Judging as judging
use Rattle.tables.proofs.Calls as calls
use Rattle.tables.proofs.Encoding.{AllFine}
use Rattle.tables.proofs.Good.{Good}
use Rattle.tables.proofs.Good as good

-- a text of any length is accepted and refused as the grammar says
pub judged : (fold : ℕ → ℕ) → Folding fold → Judged fold
judged fold folding = judging.judging fold (classified fold folding) cut

-- and within the length limit, with 2 beyond
pub reads : (fold : ℕ → ℕ) → Folding fold → Reads fold
reads fold folding = judging.within_length fold (classified fold folding) cut

-- and so does the reader's call, areas included, with any table lent: demand 1 for reading, and that the tables read are exactly those of the grammar
pub books_read : (table : List ℕ) → ReadCalls table
books_read table = calls.read_calls table (λ passes. reads (letters table) passes.1)

module _ (fold : ℕ → ℕ) (folding : Folding fold) where
  -- what is read fits
  pub read_fits : (t : Bytes) (cs : List Clause) → book_of fold t ≡ read cs → (length cs ≤ rules) × (length (names_of cs) ≤ names)
  read_fits = judging.read_fits fold (classified fold folding) cut

  -- the names of a rule's line are folded names
  pub form_good : (s : Bytes) (c : Clause) → form_of fold s ≡ rule c → (x : Bytes) → Among x (c.head ∷ c.body) → Good fold x
  form_good = good.form_good fold folding (classified fold folding)

  -- and so are those of a book, as they stand
  pub read_good : (t : Bytes) (cs : List Clause) → book_of fold t ≡ read cs → (x : Bytes) → Among x (standing cs) → Good fold x
  read_good = good.read_good fold folding (classified fold folding) cut

  -- and by number
  pub read_good_at : (t : Bytes) (cs : List Clause) → book_of fold t ≡ read cs
      → (a : ℕ) → a < length (names_of cs) → Good fold (get_or (names_of cs) a [])
  read_good_at = good.read_good_at fold folding (classified fold folding) cut

  -- so these have at most 32 bytes, none of them zero
  pub read_fine : (t : Bytes) (cs : List Clause) → book_of fold t ≡ read cs → AllFine (names_of cs)
  read_fine t cs q = good.good_fine fold (names_of cs) (read_good_at t cs q)
