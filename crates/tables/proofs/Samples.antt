-- Sample texts with what they come to, computed: the number and the line, or the text that is written from their names and rules; and lines at
-- the limits of names and rules.
-- Assumes nothing.
use mathlib.Core.Path.{◌≡◌, refl}
use mathlib.Core.List.{List, [], ◌∷◌, map}
use Prim.Native.Nat.{ℕ, zero, suc, ◌+◌, ◌-◌, ◌/◌, ◌%◌}
use Prim.Native.String.{String}
use Rattle.sets.specs.Set.{pick, members}
use Rattle.grammar.specs.Bytes.{Bytes, bytes, blank, small, our_letters, name_byte, all_of}
use Rattle.grammar.specs.Grammar.{Clause, rule, joined}
use Rattle.grammar.specs.Lines.{span, grown, lines, goes_on, words_of, is_name, all_names, starts, barred, byte_fault, word_fault, words_fault, from_body}
use Rattle.grammar.specs.Lines.{from_colon, from_head, form_of}
use Rattle.tables.specs.Numbering.{same_bytes, place, meet, meet_all, standing, names_of, places, numbered}
use Rattle.tables.specs.Reading.{Reading, read, refused, line_cause, taken, read_lines, book_of, reading}
use Rattle.tables.specs.Writing.{spaced_on, spaced, rule_text, written}

-- what a reading comes to
abbrev come_to : Reading → ℕ × ℕ × Bytes
come_to (read cs) = (0, 0, written (names_of cs) (map (numbered (names_of cs)) cs))
come_to (refused k line) = (k, line, [])

-- a sample: a text, its number and line, and the text written from its names and rules
abbrev Sample : Type 0
Sample = String × ℕ × ℕ × String

abbrev table : List Sample
table =
    ("", 3, 0, "")
    ∷ ("DPB 0001", 3, 0, "")
    ∷ ("DPB 0002\n", 3, 0, "")
    ∷ ("DPB 0001\n", 0, 0, "DPB 0001\n")
    ∷ ("DPB 0001\na:b", 4, 0, "")
    ∷ ("DPB 0001\na b\nc", 4, 0, "")
    ∷ ("DPB 0001\n:\n", 5, 2, "")
    ∷ ("DPB 0001\na:b\n\n#\na:b\r\n", 14, 5, "")
    ∷ ("DPB 0001\na:b\na:abcdefghijklmnopqrstuvwxyz-0123456\n\r\n", 13, 3, "")
    ∷ ("DPB 0001\np:q\nq:p r\nq:s\ns:\n", 0, 0, "DPB 0001\np:q\nq:p r\nq:s\ns:\n")
    ∷ ("DPB 0001\n# x\n\n c : b a c\tB\nA:\n", 0, 0, "DPB 0001\nc:c b a\na:\n")
    ∷ ("DPB 0001\na:b\na:b\nA: B b\n", 0, 0, "DPB 0001\na:b\na:b\na:b\n")
    ∷ []

-- they come to that
pub texts_agree : map (λ (x : Sample). come_to (reading our_letters (bytes x.0))) table ≡ map (λ (x : Sample). (x.1, x.2, bytes x.3)) table
unfolding pick members blank small our_letters name_byte all_of joined span grown lines goes_on words_of is_name all_names starts barred byte_fault word_fault words_fault from_body from_colon from_head form_of same_bytes place meet meet_all standing names_of places numbered line_cause taken read_lines book_of reading spaced_on spaced rule_text written
texts_agree = refl

-- Lines at the limits of names and rules, built from numbers; as text they are in the crate `known`.

-- n times the same clause
unfoldable pub times : ℕ → Clause → List Clause
times zero c = []
times (suc n) c = c ∷ times n c

-- n names of two bytes, from the k-th on
unfoldable pub names_on : ℕ → ℕ → List Bytes
names_on zero k = []
names_on (suc n) k = ((97 + k % 26) ∷ (97 + k / 26) ∷ []) ∷ names_on n (suc k)

-- a clause with n names: the head `a`, and a body of the others
abbrev pub wide : ℕ → Clause
wide n = record { head = bytes "a"; body = names_on (n - 1) 0 }

-- the clauses above, a clause, and the cause for which its line is refused
abbrev pub AtLimit : Type 0
AtLimit = List Clause × Clause × ℕ

abbrev pub at_limits : List AtLimit
at_limits =
    ([], wide 128, 0)
    ∷ ([], wide 129, 6)
    ∷ (times 255 (wide 1), wide 1, 0)
    ∷ (times 256 (wide 1), wide 1, 7)
    ∷ (times 256 (wide 1), wide 129, 7)
    ∷ []

-- they are refused for these
pub causes_agree : map (λ (x : AtLimit). line_cause x.0 (rule x.1)) at_limits ≡ map (λ (x : AtLimit). x.2) at_limits
unfolding pick same_bytes place meet meet_all standing names_of line_cause times names_on
causes_agree = refl
