-- The tables between two lines, and what a line and all lines leave in them.
-- Assumes nothing.
use Rattle.std.specs.Prelude.{◌≡◌, List, [], map, ℕ, ◌+◌, ◌≤◌, length, drop}
use Rattle.limits.specs.Book.{rules, name_area, body_area}
use Rattle.grammar.specs.Bytes.{Bytes}
use Rattle.grammar.specs.Grammar.{Clause, Form, mark}
use Rattle.grammar.specs.Lines.{lines, form_of}
use Rattle.tables.specs.Numbering.{names_of, numbered}
use Rattle.tables.specs.Reading.{Reading, read, refused, line_cause, taken, read_lines}
use Rattle.tables.specs.Areas.{Areas, head_rows, body_rows}
use Rattle.areas.specs.Area.{begun}
use Rattle.clause.specs.Line.{line_at}
use Rattle.lexicon.specs.declared.Lexicon as words
use Rattle.clause.specs.Held as held
use Rattle.clause.specs.Found.{Kept, Lexicon, lexicon_of, Named}
use Rattle.reader.specs.declared.RuleRows.{RuleRows}

-- the form of the line at place i
abbrev pub form_at : (ℕ → ℕ) → Bytes → ℕ → Form
form_at fold t i = form_of fold (line_at t i)

-- the tables while lines are read: the names with their index, how many rules there are, heads and bodies
pub record Tables : Type 0 where
  pub lexicon : Lexicon
  pub count : ℕ
  pub heads : List ℕ
  pub bodies : List ℕ

abbrev pub tables_at : ℕ → ℕ → Bytes → List ℕ → List ℕ → List ℕ → List ℕ → Tables
tables_at n m area first prior heads bodies =
    record { lexicon = lexicon_of n area first prior; count = m; heads = heads; bodies = bodies }

-- the tables that the code holds
abbrev pub tables_in : words.Lexicon → RuleRows → Tables
tables_in l r = record { lexicon = held.held l; count = r.count; heads = r.heads.now; bodies = r.bodies.now }

-- the lent areas of rules are the ones they were
abbrev pub SameRows : RuleRows → RuleRows → Type 0
SameRows r r' = (r'.heads.ghost_name ≡ r.heads.ghost_name) × (r'.bodies.ghost_name ≡ r.bodies.ghost_name)

-- they hold the clauses cs
pub record Booked (cs : List Clause) (x : Tables) : Type 0 where
  pub named : Named (names_of cs) x.lexicon
  pub count : x.count ≡ length cs
  pub few : x.count ≤ rules
  pub heads_long : rules ≤ length x.heads
  pub bodies_long : body_area ≤ length x.bodies
  pub head_rows_lem : x.heads ≡ begun (head_rows (map (numbered (names_of cs)) cs)) x.heads
  pub body_rows_lem : x.bodies ≡ begun (body_rows (map (numbered (names_of cs)) cs)) x.bodies

-- the lent areas past their stated sizes as they were
pub record Stayed (x y : Tables) : Type 0 where
  pub kept : Kept name_area x.lexicon.area y.lexicon.area
  pub head_kept : Kept rules x.heads y.heads
  pub body_kept : Kept body_area x.bodies y.bodies

-- what a line of that form with its end at that place leaves after the clauses cs: its cause, and where that is 0 the place and the line
-- number behind it and the tables with it
pub record Stepped (cs : List Clause) (form : Form) (end line cause at next : ℕ) (y : Tables) : Type 0 where
  pub judged : cause ≡ line_cause cs form
  pub ends : cause ≡ 0 → at ≡ end + 1
  pub counts : cause ≡ 0 → next ≡ line + 1
  pub books : cause ≡ 0 → Booked (taken cs form) y

-- what the lines of a text come to
abbrev pub all_lines : (ℕ → ℕ) → Bytes → Reading
all_lines fold t = read_lines fold (lines (drop (length mark) t)) [] 2

-- what they leave: the tables of all their clauses, or the first refusal with its line
pub record Lined (fold : ℕ → ℕ) (t : Bytes) (number line : ℕ) (y : Tables) : Type 0 where
  pub reads : number ≡ 0 → (line ≡ 0) × ((cs : List Clause) × (all_lines fold t ≡ read cs) × Booked cs y)
  pub refuses : (number ≡ 0 → ⊥) → (all_lines fold t ≡ refused number line) × (2 ≤ line) × (y.lexicon.count ≡ 0) × (y.count ≡ 0)

-- the lent areas when the lines are read, before their unused rows are cleared
pub record Unsettled (fold : ℕ → ℕ) (t : Bytes) (number line n m : ℕ) (old new : Areas) : Type 0 where
  pub first : List ℕ
  pub prior : List ℕ
  pub stays : Stayed (tables_at 0 0 old.spellings [] [] old.heads old.bodies) (tables_at n m new.spellings first prior new.heads new.bodies)
  pub reads : Lined fold t number line (tables_at n m new.spellings first prior new.heads new.bodies)
