-- Lines and their forms, computed.
-- Assumes nothing.
use Rattle.std.specs.Prelude.{Bool, true, false, not, ◌&&◌, ◌||◌, List, [], ◌∷◌, ℕ, zero, suc, eqb, leb, ltb, length, take, drop}
use Rattle.limits.specs.Book.{name_bytes}
use Rattle.sets.specs.Set.{pick}
use Rattle.grammar.specs.Bytes.{Bytes, blank, name_byte, all_of, colon, hash, line_end}
use Rattle.grammar.specs.Grammar.{Form, silent, rule, fault, spelling}

-- the length of the longest run at the front whose bytes pass the test
unfoldable pub span : (ℕ → Bool) → Bytes → ℕ
span p [] = zero
span p (b ∷ s) = pick (p b) (suc (span p s)) zero

-- that run, and what follows it
abbrev pub run : (ℕ → Bool) → Bytes → Bytes
run p s = take (span p s) s

abbrev pub past : (ℕ → Bool) → Bytes → Bytes
past p s = drop (span p s) s

-- the byte b before the lines ls
unfoldable pub grown : ℕ → List Bytes → List Bytes
grown b [] = (b ∷ []) ∷ []
grown b (l ∷ ls) = (b ∷ l) ∷ ls

-- a text cut at its line ends
unfoldable pub lines : Bytes → List Bytes
lines [] = []
lines (b ∷ s) = pick (eqb b line_end) ([] ∷ lines s) (grown b (lines s))

-- whether a word goes on into s
unfoldable pub goes_on : Bytes → Bool
goes_on [] = false
goes_on (b ∷ s) = pick (blank b) false true

-- the words of s: its runs between blanks
unfoldable pub words_of : Bytes → List Bytes
words_of [] = []
words_of (b ∷ s) = pick (blank b) (words_of s) (pick (goes_on s) (grown b (words_of s)) ((b ∷ []) ∷ words_of s))

-- the test for Name
unfoldable pub is_name : (ℕ → ℕ) → Bytes → Bool
is_name fold s = leb 1 (length s) && (leb (length s) name_bytes && all_of (name_byte fold) s)

-- each of the words is a name
unfoldable pub all_names : (ℕ → ℕ) → List Bytes → Bool
all_names fold [] = true
all_names fold (w ∷ ws) = is_name fold w && all_names fold ws

-- whether the first byte is b
unfoldable pub starts : ℕ → Bytes → Bool
starts b [] = false
starts b (x ∷ s) = eqb x b

-- the test for BarredByte
unfoldable pub barred : (ℕ → ℕ) → ℕ → Bool
barred fold b = not (name_byte fold b || (blank b || eqb b colon))

-- the number of a fault at the first byte of s, where no run is overlong, or at the line's end
unfoldable pub byte_fault : (ℕ → ℕ) → Bytes → ℕ
byte_fault fold [] = 5
byte_fault fold (b ∷ s) = pick (barred fold b) 14 5

-- the number of the fault of s, which is no name: 13 where the run of name bytes at its front is overlong, else by the byte after that run
unfoldable pub word_fault : (ℕ → ℕ) → Bytes → ℕ
word_fault fold s = pick (ltb name_bytes (span (name_byte fold) s)) 13 (byte_fault fold (past (name_byte fold) s))

-- that of the first word that is no name, 0 for none
unfoldable pub words_fault : (ℕ → ℕ) → List Bytes → ℕ
words_fault fold [] = 0
words_fault fold (w ∷ ws) = pick (is_name fold w) (words_fault fold ws) (word_fault fold w)

-- a line whose head is h, behind the colon
unfoldable pub from_body : (ℕ → ℕ) → Bytes → Bytes → Form
from_body fold h s =
    pick (all_names fold (words_of s)) (rule (spelling fold h (words_of s))) (fault (words_fault fold (words_of s)))

-- a line whose head is h, from the colon on
unfoldable pub from_colon : (ℕ → ℕ) → Bytes → Bytes → Form
from_colon fold h s = pick (starts colon s) (from_body fold h (drop 1 s)) (fault (byte_fault fold s))

-- a line from its first byte that is no blank
unfoldable pub from_head : (ℕ → ℕ) → Bytes → Form
from_head fold [] = silent
from_head fold (b ∷ s) =
    pick (is_name fold (run (name_byte fold) (b ∷ s)))
    (from_colon fold (run (name_byte fold) (b ∷ s)) (past blank (past (name_byte fold) (b ∷ s))))
    (fault (word_fault fold (b ∷ s)))

-- the form of a line
unfoldable pub form_of : (ℕ → ℕ) → Bytes → Form
form_of fold s = pick (starts hash s) silent (from_head fold (past blank s))
