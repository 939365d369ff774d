-- What the lister prints. Document 01: "uses 8 folds and prints one head line, then each held name in number order", and "A refusal
-- prints only `DPL 0001 refused=5 line=3` with its own two numbers and a line end".
-- Assumes nothing.
use Rattle.std.specs.Prelude.{List, [], ◌∷◌, ◌++◌, ℕ, ltb, length}
use Rattle.limits.specs.Book.{atoms, folds, listing_bytes}
use Rattle.sets.specs.Set.{pick}
use Rattle.program.specs.System.{System, folded, rounds_of, held_by}
use Rattle.program.specs.Standard.{standard}
use Rattle.grammar.specs.Bytes.{Bytes, bytes}
use Rattle.grammar.specs.Grammar.{joined}
use Rattle.tables.specs.Numbering.{names_of, program_of}
use Rattle.tables.specs.Reading.{Reading, read, refused, reading}
use Rattle.areas.specs.Area.{filled}
use Rattle.solving.specs.Listing.{decimal, listing_lines}

-- the line of a refusal
unfoldable pub refusal_line : ℕ → ℕ → Bytes
refusal_line number line = bytes "DPL 0001 refused=" ++ (decimal number ++ (bytes " line=" ++ decimal line))

-- the lines for what a text comes to: its refusal, refusal 8 for over 256 atoms, or the listing after 8 folds
unfoldable pub printed_lines : Reading → List Bytes
printed_lines (refused number line) = refusal_line number line ∷ []
printed_lines (read cs) =
    let s : System = folded folds (standard (program_of cs)) in
    pick (ltb atoms (standard (program_of cs)).atoms) (refusal_line 8 0 ∷ []) (listing_lines (names_of cs) (held_by s) folds (rounds_of s))

-- what is printed of the text t
unfoldable pub printed : (ℕ → ℕ) → Bytes → Bytes
printed fold t = joined (printed_lines (reading fold t))

-- how many bytes are to be printed, and the area that holds them, zero after them
pub record PrintOutcome : Type 0 where
  pub count : ℕ
  pub area : Bytes

unfoldable pub print_call : (ℕ → ℕ) → Bytes → PrintOutcome
print_call fold t = record { count = length (printed fold t); area = filled listing_bytes (printed fold t) [] }
