-- What a text comes to: the clauses of its book, or the first cause of refusal with its line.
-- Assumes nothing.
use Rattle.std.specs.Prelude.{◌≡◌, Bool, ◌⊎◌, List, [], ◌∷◌, ◌++◌, ℕ, suc, ◌+◌, ◌-◌, ◌<◌, ◌≤◌, eqb, leb, ltb, length, get_or, take, drop}
use Rattle.limits.specs.Book.{text_bytes, names, rules}
use Rattle.sets.specs.Set.{pick}
use Rattle.grammar.specs.Bytes.{Bytes, line_end}
use Rattle.grammar.specs.Grammar.{Clause, Form, silent, rule, fault, Says, Text, mark, Marked, Ended}
use Rattle.grammar.specs.Lines.{lines, form_of}
use Rattle.tables.specs.Numbering.{same_bytes, names_of}

-- Stated: a book, and each cause of refusal.

-- the lines say these clauses, in order
unfoldable pub Saying : (ℕ → ℕ) → List Bytes → List Clause → Type 0
Saying fold [] cs = cs ≡ []
Saying fold (s ∷ ls) cs =
    (Says fold s silent × Saying fold ls cs)
    ⊎ ((c : Clause) × (rest : List Clause) × Says fold s (rule c) × (cs ≡ c ∷ rest) × Saying fold ls rest)

-- at most 256 rules and 128 names
pub record Fits (cs : List Clause) : Type 0 where
  pub rules_fit : length cs ≤ rules
  pub names_fit : length (names_of cs) ≤ names

-- the text is a book with these clauses, its length aside
pub record Book (fold : ℕ → ℕ) (t : Bytes) (cs : List Clause) : Type 0 where
  pub ls : List Bytes
  pub text : Text t ls
  pub says : Saying fold ls cs
  pub fits : Fits cs

-- after the clauses cs, the line s is refused under this number: that of its fault, then 7, then 6
unfoldable pub LineRefused : (ℕ → ℕ) → List Clause → Bytes → ℕ → Type 0
LineRefused fold cs s k =
    Says fold s (fault k)
    ⊎ ((c : Clause) × Says fold s (rule c)
    × (((k ≡ 7) × (length cs ≡ rules)) ⊎ ((k ≡ 6) × (length cs < rules) × (names < length (names_of (cs ++ (c ∷ [])))))))

-- line number `line` is the first that is refused, under the number k
pub record FirstRefused (fold : ℕ → ℕ) (t : Bytes) (k line : ℕ) : Type 0 where
  pub above : List Bytes
  pub here : Bytes
  pub below : List Bytes
  pub text : Text t (above ++ (here ∷ below))
  pub cs : List Clause
  pub says : Saying fold above cs
  pub fits : Fits cs
  pub refused_for : LineRefused fold cs here k
  pub number : line ≡ length above + 2

-- the same, where the cause is the line's own form: it has the fault of number k
abbrev pub FirstFault : (ℕ → ℕ) → Bytes → ℕ → ℕ → Type 0
FirstFault fold t k line = (x : FirstRefused fold t k line) × Says fold x.here (fault k)

-- the text is refused under number k with that line, 0 for none: 3, then 4, then lines downward; its length aside
unfoldable pub Refusal : (ℕ → ℕ) → Bytes → ℕ → ℕ → Type 0
Refusal fold t k line =
    ((k ≡ 3) × (line ≡ 0) × (Marked t → ⊥))
    ⊎ (((k ≡ 4) × (line ≡ 0) × Marked t × (Ended t → ⊥))
    ⊎ FirstRefused fold t k line)

-- Computed.

pub data Reading : Type 0 where
  read : List Clause → Reading
  refused : ℕ → ℕ → Reading

-- the cause for which a line of that form is refused after the clauses cs, 0 for none
unfoldable pub line_cause : List Clause → Form → ℕ
line_cause cs silent = 0
line_cause cs (fault k) = k
line_cause cs (rule c) = pick (leb rules (length cs)) 7 (pick (ltb names (length (names_of (cs ++ (c ∷ []))))) 6 0)

-- the clauses after a line of that form
unfoldable pub taken : List Clause → Form → List Clause
taken cs silent = cs
taken cs (fault k) = cs
taken cs (rule c) = cs ++ (c ∷ [])

-- the lines from number `line` on, after the clauses cs
unfoldable pub read_lines : (ℕ → ℕ) → List Bytes → List Clause → ℕ → Reading
read_lines fold [] cs line = read cs
read_lines fold (s ∷ ls) cs line =
    pick (eqb (line_cause cs (form_of fold s)) 0)
    (read_lines fold ls (taken cs (form_of fold s)) (suc line))
    (refused (line_cause cs (form_of fold s)) line)

-- whether the text begins with the mark
abbrev pub marked : Bytes → Bool
marked t = same_bytes (take (length mark) t) mark

-- whether its last byte is a line end
abbrev pub ended : Bytes → Bool
ended t = eqb (get_or t (length t - 1) 0) line_end

-- a text of any length
unfoldable pub book_of : (ℕ → ℕ) → Bytes → Reading
book_of fold t =
    pick (marked t) (pick (ended t) (read_lines fold (lines (drop (length mark) t)) [] 2) (refused 4 0)) (refused 3 0)

-- a text as the reader takes it: over 16,384 bytes comes first
unfoldable pub reading : (ℕ → ℕ) → Bytes → Reading
reading fold t = pick (ltb text_bytes (length t)) (refused 2 0) (book_of fold t)
