-- The line at a place of a text, and what its form is.
-- Assumes nothing.
use Rattle.std.specs.Prelude.{◌≡◌, true, List, ◌∷◌, ◌++◌, map, ℕ, drop}
use Rattle.grammar.specs.Bytes.{Bytes, blank, not_end, name_byte, all_of, line_end}
use Rattle.grammar.specs.Grammar.{Form, silent, rule, fault}
use Rattle.grammar.specs.Lines.{run, words_of, from_head}
use Rattle.scan.specs.Places.{past_at}

-- r begins with the line s, which has its end
pub record Begins (r s rest : Bytes) : Type 0 where
  pub shape : r ≡ s ++ (line_end ∷ rest)
  pub unbroken : all_of not_end s ≡ true

-- the line at place i has its end
abbrev pub LineEnds : Bytes → ℕ → Type 0
LineEnds t i = (s : Bytes) × (rest : Bytes) × Begins (drop i t) s rest

-- the line at place i, without its end
abbrev pub line_at : Bytes → ℕ → Bytes
line_at t i = run not_end (drop i t)

-- the form from place i on, where the line's head should stand
abbrev pub form_from : (ℕ → ℕ) → Bytes → ℕ → Form
form_from fold t i = from_head fold (line_at t i)

-- the words from place i on, as they stand and folded
abbrev pub words_at : Bytes → ℕ → List Bytes
words_at t i = words_of (line_at t i)

abbrev pub words_folded : (ℕ → ℕ) → Bytes → ℕ → List Bytes
words_folded fold t i = map (map fold) (words_at t i)

-- past the blanks at i; past the run of name bytes there and the blanks after it
abbrev pub unblank : Bytes → ℕ → ℕ
unblank t i = past_at blank t i

abbrev pub unword : (ℕ → ℕ) → Bytes → ℕ → ℕ
unword fold t i = unblank t (past_at (name_byte fold) t i)

-- the number of a line's fault, 0 for none
unfoldable pub fault_of : Form → ℕ
fault_of silent = 0
fault_of (rule c) = 0
fault_of (fault k) = k
