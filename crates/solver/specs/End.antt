-- Where the text of the listing ends.
-- Assumes nothing.
use Rattle.std.specs.Prelude.{ℕ, eqb, length}
use Rattle.sets.specs.Set.{pick}
use Rattle.program.specs.System.{System, folded, rounds_of, held_by}
use Rattle.program.specs.Standard.{standard}
use Rattle.grammar.specs.Grammar.{joined}
use Rattle.tables.specs.Numbering.{names_of, program_of}
use Rattle.tables.specs.Reading.{Reading, read, refused}
use Rattle.solving.specs.Listing.{listing_lines}

-- after the lines of the listing of what the text comes to, for the answer's number and k folds; 0 for a refusal
unfoldable pub listed_end : ℕ → Reading → ℕ → ℕ
listed_end number (refused q line) k = 0
listed_end number (read cs) k =
    let s : System = folded k (standard (program_of cs)) in
    pick (eqb number 0) (length (joined (listing_lines (names_of cs) (held_by s) k (rounds_of s)))) 0
