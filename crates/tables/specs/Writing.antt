-- "Writing" of document 01: the text of tables, and the tables that some book reads to.
-- Assumes nothing.
use Rattle.std.specs.Prelude.{◌≡◌, Bool, true, not, ◌&&◌, ◌||◌, List, [], ◌∷◌, ◌++◌, map, ℕ, suc, ◌-◌, ◌*◌, max, eqb, leb, ltb, length, get_or, drop}
use Rattle.limits.specs.Book.{text_bytes, names, name_bytes, rules, body_words, name_area, body_area}
use Rattle.sets.specs.Set.{pick, every, members}
use Rattle.areas.specs.Area.{part, filled}
use Rattle.program.specs.Program.{Rule}
use Rattle.grammar.specs.Bytes.{Bytes, colon, space, letters, all_of}
use Rattle.grammar.specs.Letters.{letters_cause}
use Rattle.grammar.specs.Grammar.{Clause, mark, joined}
use Rattle.tables.specs.Numbering.{same_bytes, names_of}
use Rattle.tables.specs.Reading.{Book}
use Rattle.tables.specs.Areas.{Areas, rules_of, short, tables_of, nonzero, name_at, names_in, rules_in}

-- the names, each after a space
unfoldable pub spaced_on : List Bytes → Bytes
spaced_on [] = []
spaced_on (n ∷ ns) = space ∷ (n ++ spaced_on ns)

-- the names "with single spaces between"
unfoldable pub spaced : List Bytes → Bytes
spaced [] = []
spaced (n ∷ ns) = n ++ spaced_on ns

-- "head, `:`, body names by rising number"
unfoldable pub rule_text : List Bytes → Rule ℕ → Bytes
rule_text ns r = get_or ns r.head [] ++ (colon ∷ spaced (map (λ (a : ℕ). get_or ns a []) (members names r.body 0)))

-- "Mark line, then each rule"
unfoldable pub written : List Bytes → List (Rule ℕ) → Bytes
written ns rs = mark ++ joined (map (rule_text ns) rs)

-- a name byte that is its own entry
unfoldable pub own : (ℕ → ℕ) → ℕ → Bool
own fold b = nonzero b && eqb (fold b) b

-- no entry from place `from` up to the stated size but zero
unfoldable pub zero_from : ℕ → ℕ → List ℕ → Bool
zero_from from size area = all_of (λ (b : ℕ). eqb b 0) (part from (size - from) area)

-- row a holds a folded name, padded with zeros
unfoldable pub good_name : (ℕ → ℕ) → Bytes → ℕ → Bool
good_name fold area a =
    leb 1 (length (name_at area a))
    && (all_of (own fold) (name_at area a) && all_of (λ (b : ℕ). eqb b 0) (drop (length (name_at area a)) (part (a * name_bytes) name_bytes area)))

-- no two of the first n names are the same
unfoldable pub different : Bytes → ℕ → Bool
different area n = every n (λ a. every a (λ b. not (same_bytes (name_at area a) (name_at area b))))

-- the numbers of a rule as its written line has them
unfoldable pub numbers_of : Rule ℕ → List ℕ
numbers_of r = r.head ∷ members names r.body 0

unfoldable pub numbers_in : List (Rule ℕ) → List ℕ
numbers_in [] = []
numbers_in (r ∷ rs) = numbers_of r ++ numbers_in rs

-- each number is one met before, or the next
unfoldable pub orderly : ℕ → List ℕ → Bool
orderly met [] = true
orderly met (a ∷ rest) = leb a met && orderly (max met (suc a)) rest

-- how many numbers are met in the end
unfoldable pub met_in : ℕ → List ℕ → ℕ
met_in met [] = met
met_in met (a ∷ rest) = met_in (max met (suc a)) rest

-- the tables are in order: names, unused rows, and numbering by first appearance; so heads and body bits are below n
unfoldable pub well_formed : (ℕ → ℕ) → Areas → ℕ → ℕ → Bool
well_formed fold o n m =
    (leb n names && leb m rules)
    && ((every n (good_name fold o.spellings) && (different o.spellings n && zero_from (n * name_bytes) name_area o.spellings))
    && ((zero_from m rules o.heads && zero_from (m * body_words) body_area o.bodies)
    && (orderly 0 (numbers_in (rules_in (rules_of o) m)) && eqb (met_in 0 (numbers_in (rules_in (rules_of o) m))) n)))

-- some book, of any length, reads to these tables
pub record Readable (fold : ℕ → ℕ) (o : Areas) (n m : ℕ) : Type 0 where
  pub text : Bytes
  pub cs : List Clause
  pub book : Book fold text cs
  pub count : n ≡ length (names_of cs)
  pub size : m ≡ length cs
  pub tables : o ≡ tables_of cs o

-- what the writer returns and leaves
pub record Written : Type 0 where
  pub number : ℕ
  pub size : ℕ
  pub text : Bytes

-- a refusal of the writer: the number, no text, and the area as it was
abbrev pub unwritten : ℕ → Bytes → Written
unwritten number area = record { number = number; size = 0; text = area }

-- a text placed in the area, or refused for its length
unfoldable pub placed : Bytes → Bytes → Written
placed w area =
    pick (ltb text_bytes (length w)) (unwritten 12 area)
    (record { number = 0; size = length w; text = filled text_bytes w area })

-- the writer, lent a folding table: areas too short and the table come first, then ill formed tables, a text too long
unfoldable pub write_call : List ℕ → Areas → ℕ → ℕ → Bytes → Written
write_call table o n m area =
    let cause : ℕ = letters_cause (short o || ltb (length area) text_bytes) table in
    pick (eqb cause 0)
    (pick (well_formed (letters table) o n m) (placed (written (names_in o.spellings n) (rules_in (rules_of o) m)) area) (unwritten 10 area))
    (unwritten cause area)
