-- "Book text" of document 01 and the faults of a line of document 02, 2.1, sentence by sentence, apart from any way of reading it.
-- Assumes nothing.
use Rattle.std.specs.Prelude.{◌≡◌, true, false, ◌⊎◌, List, [], ◌∷◌, ◌++◌, map, ℕ, ◌≤◌, length}
use Rattle.limits.specs.Book.{name_bytes}
use Rattle.grammar.specs.Bytes.{Bytes, blank, not_end, name_byte, all_of, colon, hash, line_end}

-- blanks or none
abbrev pub Blanks : Bytes → Type 0
Blanks s = all_of blank s ≡ true

-- "A name is a .. run of 1 to 32 name bytes"
pub record Name (fold : ℕ → ℕ) (s : Bytes) : Type 0 where
  pub some : 1 ≤ length s
  pub fits : length s ≤ name_bytes
  pub bytes : all_of (name_byte fold) s ≡ true

-- nothing more, or a blank: so a name is a whole run, and names are parted by one or more blanks
abbrev pub Parted : Bytes → Type 0
Parted s = (s ≡ []) ⊎ ((b : ℕ) × (t : Bytes) × (s ≡ b ∷ t) × (blank b ≡ true))

-- s is a body of these names: before each there are blanks or none, and at the end too
unfoldable pub Body : (ℕ → ℕ) → Bytes → List Bytes → Type 0
Body fold s [] = Blanks s
Body fold s (n ∷ ns) =
    (front : Bytes) × (rest : Bytes) × (s ≡ front ++ (n ++ rest)) × Blanks front × Name fold n × Parted rest × Body fold rest ns

-- "a rule: blanks or none, a name (the head), blanks or none, `:`, then a body"
pub record RuleLine (fold : ℕ → ℕ) (s head : Bytes) (body : List Bytes) : Type 0 where
  pub front : Bytes
  pub gap : Bytes
  pub rest : Bytes
  pub shape : s ≡ front ++ (head ++ (gap ++ (colon ∷ rest)))
  pub before : Blanks front
  pub name : Name fold head
  pub between : Blanks gap
  pub names : Body fold rest body

-- "a remark: first byte `#`, then any bytes"
abbrev pub Remark : Bytes → Type 0
Remark s = (rest : Bytes) × (s ≡ hash ∷ rest)

-- s is of a listed form
abbrev pub Listed : (ℕ → ℕ) → Bytes → Type 0
Listed fold s = Blanks s ⊎ (Remark s ⊎ ((h : Bytes) × (ns : List Bytes) × RuleLine fold s h ns))

-- a listed form is possible after p: some continuation of p is of one
abbrev pub Viable : (ℕ → ℕ) → Bytes → Type 0
Viable fold p = (more : Bytes) × Listed fold (p ++ more)

-- the fault of s stands at its byte b, after p: "the first byte that leaves no listed form possible"
pub record FaultAt (fold : ℕ → ℕ) (s p : Bytes) (b : ℕ) : Type 0 where
  pub rest : Bytes
  pub shape : s ≡ p ++ (b ∷ rest)
  pub viable : Viable fold p
  pub ends : Viable fold (p ++ (b ∷ [])) → ⊥

-- "a byte that is neither name byte, blank nor `:`"
pub record BarredByte (fold : ℕ → ℕ) (b : ℕ) : Type 0 where
  pub no_name : name_byte fold b ≡ false
  pub no_blank : blank b ≡ false
  pub no_colon : b ≡ colon → ⊥

-- empty, or its last byte is no name byte: so a run of name bytes after it begins there
abbrev pub Unnamed : (ℕ → ℕ) → Bytes → Type 0
Unnamed fold s = (s ≡ []) ⊎ ((t : Bytes) × (c : ℕ) × (s ≡ t ++ (c ∷ [])) × (name_byte fold c ≡ false))

-- the byte b, after p, is the 33rd of a run of name bytes: "a run of more than 32 name bytes", whose fault is "at its 33rd byte"
pub record LongName (fold : ℕ → ℕ) (p : Bytes) (b : ℕ) : Type 0 where
  pub before : Bytes
  pub run : Bytes
  pub shape : p ≡ before ++ run
  pub begins : Unnamed fold before
  pub size : length run ≡ name_bytes
  pub bytes : all_of (name_byte fold) run ≡ true
  pub more : name_byte fold b ≡ true

-- the number of a fault at the byte b after p: 14 for a barred byte, 13 for an overlong name, "5 remains for the rest"
abbrev pub FaultNumber : (ℕ → ℕ) → Bytes → ℕ → ℕ → Type 0
FaultNumber fold p b k =
    ((k ≡ 14) × BarredByte fold b)
    ⊎ (((k ≡ 13) × LongName fold p b) ⊎ ((k ≡ 5) × (BarredByte fold b → ⊥) × (LongName fold p b → ⊥)))

-- the line s is at fault under the number k: by the byte at which its fault stands; "one known only by the line's end comes last", and is 5
abbrev pub Fault : (ℕ → ℕ) → Bytes → ℕ → Type 0
Fault fold s k =
    ((p : Bytes) × (b : ℕ) × FaultAt fold s p b × FaultNumber fold p b k)
    ⊎ ((k ≡ 5) × Viable fold s × (Listed fold s → ⊥))

-- a rule as the book has it: its names in folded bytes, the body as the names stand in the line
pub record Clause : Type 0 where
  pub head : Bytes
  pub body : List Bytes

-- the clause that a head and a body spell
abbrev pub spelling : (ℕ → ℕ) → Bytes → List Bytes → Clause
spelling fold h ns = record { head = map fold h; body = map (map fold) ns }

-- what a line is: nothing to read, a rule, or at fault, with the number of its cause
pub data Form : Type 0 where
  silent : Form
  rule : Clause → Form
  fault : ℕ → Form

-- the line s is of that form
unfoldable pub Says : (ℕ → ℕ) → Bytes → Form → Type 0
Says fold s silent = Blanks s ⊎ Remark s
Says fold s (rule c) = (h : Bytes) × (ns : List Bytes) × RuleLine fold s h ns × (c ≡ spelling fold h ns)
Says fold s (fault k) = Fault fold s k

-- the nine bytes `DPB 0001` and a line end
abbrev pub mark : Bytes
mark = 68 ∷ 80 ∷ 66 ∷ 32 ∷ 48 ∷ 48 ∷ 48 ∷ 49 ∷ 10 ∷ []

-- lines, each with its end
unfoldable pub joined : List Bytes → Bytes
joined [] = []
joined (s ∷ ls) = s ++ (line_end ∷ joined ls)

-- no line holds a line end
unfoldable pub Unbroken : List Bytes → Type 0
Unbroken [] = Unit
Unbroken (s ∷ ls) = (all_of not_end s ≡ true) × Unbroken ls

-- a text: the mark, then these lines
pub record Text (t : Bytes) (ls : List Bytes) : Type 0 where
  pub shape : t ≡ mark ++ joined ls
  pub unbroken : Unbroken ls

-- the text begins with the mark
abbrev pub Marked : Bytes → Type 0
Marked t = (rest : Bytes) × (t ≡ mark ++ rest)

-- the last byte is a line end
abbrev pub Ended : Bytes → Type 0
Ended t = (s : Bytes) × (t ≡ s ++ (line_end ∷ []))
