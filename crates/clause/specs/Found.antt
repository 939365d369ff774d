-- What is found in a line: a name's number, a body's names, a rule; and the names with their index while lines are read.
-- Assumes nothing.
use Rattle.std.specs.Prelude.{◌≡◌, Bool, true, false, List, [], ◌∷◌, ℕ, ◌<◌, ◌≤◌, leb, length, get_or, drop}
use Rattle.limits.specs.Book.{names, name_bytes, body_words, name_area}
use Rattle.sets.specs.Set.{Set, union}
use Rattle.words.specs.Row.{pack}
use Rattle.grammar.specs.Bytes.{Bytes, not_end, name_byte, all_of}
use Rattle.grammar.specs.Grammar.{Clause, rule}
use Rattle.grammar.specs.Lines.{is_name, words_fault}
use Rattle.scan.specs.Hash.{hash_of}
use Rattle.scan.specs.Places.{past_at, name_run, name_folded}
use Rattle.tables.specs.Numbering.{place, meet, meet_all, places}
use Rattle.tables.specs.Areas.{name_rows, nonzero, names_in}
use Rattle.areas.specs.Area.{begun}
use Rattle.lexicon.specs.Index.{Indexed}
use Rattle.clause.specs.Line.{form_from, words_at, words_folded, fault_of}

-- a name stands at place i: the run of name bytes there, up to end, with its bucket
pub record NameHere (fold : ℕ → ℕ) (t : Bytes) (i end bucket : ℕ) : Type 0 where
  pub good : is_name fold (name_run fold t i) ≡ true
  pub ends : end ≡ past_at (name_byte fold) t i
  pub hashed : bucket ≡ hash_of (name_folded fold t i)

-- an area as long as it was, and past its stated size as it was
pub record Kept (size : ℕ) (old new : List ℕ) : Type 0 where
  pub as_long : length new ≡ length old
  pub past : drop size new ≡ drop size old

-- the names while lines are read: how many there are, the name area, and the two tables of their index
pub record Lexicon : Type 0 where
  pub count : ℕ
  pub area : Bytes
  pub first : List ℕ
  pub prior : List ℕ

abbrev pub lexicon_of : ℕ → Bytes → List ℕ → List ℕ → Lexicon
lexicon_of n area first prior = record { count = n; area = area; first = first; prior = prior }

-- the names that stand in it
abbrev pub names_at : Lexicon → List Bytes
names_at x = names_in x.area x.count

-- they are ns, in rows from the area's start, and the two tables are their index
pub record Named (ns : List Bytes) (x : Lexicon) : Type 0 where
  pub count : x.count ≡ length ns
  pub few : x.count ≤ names
  pub long : name_area ≤ length x.area
  pub fine : (a : ℕ) → a < length ns → (length (get_or ns a []) ≤ name_bytes) × (all_of nonzero (get_or ns a []) ≡ true)
  pub rows : x.area ≡ begun (name_rows ns) x.area
  pub there : names_at x ≡ ns
  pub index : Indexed ns x.first x.prior

-- it holds the names that stand in it
abbrev pub InOrder : Lexicon → Type 0
InOrder x = Named (names_at x) x

-- what is left after w is met: whether there was room for it; with room its number, and the names with it
pub record Meeting (w : Bytes) (room : Bool) (number : ℕ) (x x' : Lexicon) : Type 0 where
  pub fits : room ≡ leb (length (meet (names_at x) w)) names
  pub number_is : room ≡ true → number ≡ place (meet (names_at x) w) w
  pub named : room ≡ true → Named (meet (names_at x) w) x'
  pub kept : Kept name_area x.area x'.area

-- what the names ws leave, met after ns: whether each found room; with room the names, and their numbers joined to the row, whatever it was
pub record Joining (ns ws : List Bytes) (room : Bool) (x' : Lexicon) (row row' : List ℕ) : Type 0 where
  pub fits : room ≡ leb (length (meet_all ns ws)) names
  pub named : room ≡ true → Named (meet_all ns ws) x'
  pub joins : room ≡ true → (f : Set) → row ≡ pack body_words f → row' ≡ pack body_words (union f (places (meet_all ns ws) ws))

-- that, where there was room before; where there was none, there is none
pub record Onward (before : Bool) (ns ws : List Bytes) (room : Bool) (x' : Lexicon) (row row' : List ℕ) : Type 0 where
  pub lost : before ≡ false → room ≡ false
  pub joins : before ≡ true → Joining ns ws room x' row row'

-- what is found of the body from place i on: its fault, where a word is no name; else `at` is the line's end, and the row has its names
pub record Bodied (fold : ℕ → ℕ) (t : Bytes) (i : ℕ) (before : Bool) (x : Lexicon) (fault at : ℕ) (room : Bool) (x' : Lexicon)
    (row row' : List ℕ) : Type 0 where
  pub judged : fault ≡ words_fault fold (words_at t i)
  pub ends : fault ≡ 0 → at ≡ past_at not_end t i
  pub kept : Kept name_area x.area x'.area
  pub joins : fault ≡ 0 → Onward before (names_at x) (words_folded fold t i) room x' row row'

-- the names after those of a clause are met
abbrev pub names_with : List Bytes → Clause → List Bytes
names_with ns c = meet_all ns (c.head ∷ c.body)

-- the clause c as a value, after the names ns: whether there was room for its names; with room its head, its body's row and the names with it
pub record Ruled (ns : List Bytes) (c : Clause) (room : Bool) (head : ℕ) (x' : Lexicon) (row : List ℕ) : Type 0 where
  pub fits : room ≡ leb (length (names_with ns c)) names
  pub named : room ≡ true → Named (names_with ns c) x'
  pub head_is : room ≡ true → head ≡ place (names_with ns c) c.head
  pub body_is : room ≡ true → row ≡ pack body_words (places (names_with ns c) c.body)

-- what is found in the line from its head at place i on: its fault; else `at` is the line's end, and the rule is that value
pub record Said (fold : ℕ → ℕ) (t : Bytes) (i : ℕ) (x : Lexicon) (fault at : ℕ) (room : Bool) (head : ℕ) (x' : Lexicon)
    (row : List ℕ) : Type 0 where
  pub judged : fault ≡ fault_of (form_from fold t i)
  pub ends : fault ≡ 0 → at ≡ past_at not_end t i
  pub kept : Kept name_area x.area x'.area
  pub says : (c : Clause) → form_from fold t i ≡ rule c → Ruled (names_at x) c room head x' row
