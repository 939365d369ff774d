-- Sample lines with their forms, our letters spelt out and filled into areas, and sample folding tables with the numbers under which they
-- are refused, computed.
-- Assumes nothing.
use mathlib.Core.Path.{◌≡◌, refl}
use mathlib.Core.List.{List, [], ◌∷◌, ◌++◌, map}
use mathlib.Core.Bool.{not, ◌&&◌}
use Prim.Native.Nat.{ℕ, ◌+◌}
use Prim.Native.String.{String}
use lib.Dec.{eqb}
use lib.ListN.{set, replicate}
use Rattle.limits.specs.Book.{letter_bytes}
use Rattle.sets.specs.Set.{pick, exists}
use Rattle.areas.specs.Area.{begun}
use Rattle.grammar.specs.Bytes.{bytes, blank, from_to, small, our_letters, letters, reserved, name_byte, all_of}
use Rattle.grammar.specs.Letters.{any_reserved, any_unsettled, table_cause, entries_from, our_table}
use Rattle.grammar.specs.Fill.{fill_call}
use Rattle.grammar.specs.Grammar.{Form, silent, rule, fault}
use Rattle.grammar.specs.Lines.{span, grown, goes_on, words_of, is_name, all_names, starts, barred, byte_fault, word_fault, words_fault, from_body, from_colon}
use Rattle.grammar.specs.Lines.{from_head, form_of}

-- the rule of a head and a body in small letters
abbrev says : String → List String → Form
says h ns = rule (record { head = bytes h; body = map bytes ns })

-- lines, each with its form
abbrev table : List (String × Form)
table =
    ("", silent)
    ∷ (" \t ", silent)
    ∷ ("# a:b", silent)
    ∷ ("P\t: q.1  Q-_\t", says "p" ("q.1" ∷ "q-_" ∷ []))
    ∷ (" a:a a", says "a" ("a" ∷ "a" ∷ []))
    ∷ ("a:", says "a" [])
    ∷ ("abcdefghijklmnopqrstuvwxyz.12345:", says "abcdefghijklmnopqrstuvwxyz.12345" [])
    ∷ []

-- 32 name bytes
abbrev full : String
full = "abcdefghijklmnopqrstuvwxyz.12345"

-- lines at fault, each with the number of its fault, as document 02 (2.1) has them and docs/DECISIONS.md reads it: barred bytes, other faults,
-- overlong names; some with a second fault further on
abbrev faults : List (List ℕ × ℕ)
faults =
    (bytes " # a", 14)
    ∷ (bytes "a:b#", 14)
    ∷ (bytes "!x", 14)
    ∷ (bytes "@1", 14)
    ∷ (0 ∷ [], 14)
    ∷ (bytes "\r", 14)
    ∷ (bytes "a\r", 14)
    ∷ (bytes "a \r", 14)
    ∷ (bytes full ++ bytes "\r", 14)
    ∷ (bytes "a:b\r", 14)
    ∷ (bytes "a:" ++ bytes full ++ bytes "\r", 14)
    ∷ (bytes "a:b,c", 14)
    ∷ (bytes "a:b # " ++ bytes full ++ bytes "6", 14)
    ∷ (bytes ":", 5)
    ∷ (bytes ":a", 5)
    ∷ (bytes "a::", 5)
    ∷ (bytes "a:b:", 5)
    ∷ (bytes "a b", 5)
    ∷ (bytes "a b:", 5)
    ∷ (bytes "a b\r", 5)
    ∷ (bytes "a " ++ bytes full ++ bytes "6", 5)
    ∷ (bytes "a", 5)
    ∷ (bytes "a ", 5)
    ∷ (bytes full, 5)
    ∷ (bytes full ++ bytes "6:", 13)
    ∷ (bytes full ++ bytes "6", 13)
    ∷ (bytes "a:b " ++ bytes full ++ bytes "6", 13)
    ∷ (bytes "a:" ++ bytes full ++ bytes "6 c", 13)
    ∷ (bytes full ++ bytes "6\r", 13)
    ∷ (bytes "a:" ++ bytes full ++ bytes "6:\r", 13)
    ∷ []

-- the computed forms are those
pub line_forms : map (λ (r : String × Form). form_of our_letters (bytes r.0)) table ≡ map (λ (r : String × Form). r.1) table
unfolding pick blank small our_letters name_byte all_of span grown goes_on words_of is_name all_names starts from_body from_colon from_head form_of
line_forms = refl

-- and the numbers
pub line_faults : map (λ (r : List ℕ × ℕ). form_of our_letters r.0) faults ≡ map (λ (r : List ℕ × ℕ). fault r.1) faults
unfolding pick blank small our_letters name_byte all_of span grown goes_on words_of is_name all_names starts barred byte_fault word_fault words_fault from_body from_colon from_head form_of
line_faults = refl

-- document 01's name bytes spelt out, and what each is folded to
abbrev spelt : List ℕ
spelt = bytes "ABCDEFGHIJKLMNOPQRSTUVWXYZabcdefghijklmnopqrstuvwxyz0123456789._-"

abbrev folded : List ℕ
folded = bytes "abcdefghijklmnopqrstuvwxyzabcdefghijklmnopqrstuvwxyz0123456789._-"

-- the entry of b by a list of bytes and one of their entries, 0 for a byte that is none of them
unfoldable pub entry_of : ℕ → List ℕ → List ℕ → ℕ
entry_of b [] ys = 0
entry_of b (x ∷ xs) [] = 0
entry_of b (x ∷ xs) (y ∷ ys) = pick (eqb b x) y (entry_of b xs ys)

-- our table has these entries and no others, at each of the 256 byte values
pub entries_spelt : entries_from (λ b. entry_of b spelt folded) letter_bytes 0 ≡ our_table
unfolding pick small our_letters entries_from our_table entry_of
entries_spelt = refl

-- areas of 255, 256 and 258 sevens, each with what the call that fills them returns and leaves
abbrev sevens : ℕ → List ℕ
sevens n = replicate n 7

pub areas_filled : map fill_call (sevens 255 ∷ sevens 256 ∷ sevens 258 ∷ [])
    ≡ record { number = 1; area = sevens 255 }
    ∷ record { number = 0; area = our_table }
    ∷ record { number = 0; area = our_table ++ sevens 2 }
    ∷ []
unfolding pick small our_letters entries_from our_table begun fill_call
areas_filled = refl

-- document 01's table with another entry at one byte: that byte, its entry, and the number. Each reserved byte; one whose entry is not its
-- own besides; entries that are not their own; tables that pass
abbrev changed : List (ℕ × ℕ × ℕ)
changed =
    (0, 97, 20)
    ∷ (9, 97, 20)
    ∷ (10, 97, 20)
    ∷ (13, 97, 20)
    ∷ (32, 97, 20)
    ∷ (33, 97, 20)
    ∷ (35, 97, 20)
    ∷ (58, 97, 20)
    ∷ (64, 97, 20)
    ∷ (64, 200, 20)
    ∷ (65, 66, 21)
    ∷ (97, 0, 21)
    ∷ (255, 254, 21)
    ∷ (45, 0, 0)
    ∷ (65, 65, 0)
    ∷ (127, 97, 0)
    ∷ (255, 255, 0)
    ∷ []

-- the computed numbers are those
pub table_causes : map (λ (r : ℕ × ℕ × ℕ). table_cause (set our_table r.0 r.1)) changed ≡ map (λ (r : ℕ × ℕ × ℕ). r.2) changed
unfolding pick exists blank small our_letters reserved letters any_reserved any_unsettled table_cause entries_from our_table
table_causes = refl

-- Latin-1 as docs/FORMAT.md makes it: capitals with accents fold to the small letter, small ones stay, the rest is ours
unfoldable pub latin : ℕ → ℕ
latin b = pick (from_to 192 222 b && not (eqb b 215)) (b + 32) (pick (from_to 223 255 b && not (eqb b 247)) b (our_letters b))

-- its table passes, and so does a table of zeros
pub tables_pass : map table_cause (entries_from latin letter_bytes 0 ∷ replicate letter_bytes 0 ∷ []) ≡ 0 ∷ 0 ∷ []
unfolding pick exists blank small our_letters letters reserved any_reserved any_unsettled table_cause entries_from latin
tables_pass = refl
