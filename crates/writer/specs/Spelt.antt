-- Names by number as a written line has them, lines, and the text, by the areas that hold them.
-- Assumes nothing.
use Rattle.std.specs.Prelude.{List, [], map, ℕ, ◌+◌, ◌-◌, ◌*◌, get_or}
use Rattle.limits.specs.Book.{names, name_bytes, body_words}
use Rattle.sets.specs.Set.{members}
use Rattle.areas.specs.Area.{part}
use Rattle.words.specs.Row.{row}
use Rattle.grammar.specs.Bytes.{Bytes}
use Rattle.grammar.specs.Grammar.{joined}
use Rattle.tables.specs.Areas.{rule_tables, names_in, rule_at, rules_in}
use Rattle.tables.specs.Writing.{spaced_on, rule_text, written}
use Rattle.tablecheck.specs.Lent.{Names}
use Rattle.tablecheck.specs.declared.Tables.{Tables}

-- name a of the first n, nothing where a is not below n
unfoldable pub name_spelt : Bytes → ℕ → ℕ → Bytes
name_spelt area n a = get_or (names_in area n) a []

-- the names of the body at place `at` from number a on, each after a space
unfoldable pub rest_of : Bytes → ℕ → List ℕ → ℕ → ℕ → Bytes
rest_of area n bodies at a = spaced_on (map (name_spelt area n) (members (names - a) (row (part at body_words bodies)) a))

-- rule j of heads and bodies as its line has it
abbrev pub line_of : Bytes → List ℕ → List ℕ → ℕ → ℕ → Bytes
line_of area heads bodies n j = rule_text (names_in area n) (rule_at (rule_tables heads bodies) j)

-- the lines of the first m rules, each with its end
abbrev pub rule_lines : Bytes → List ℕ → List ℕ → ℕ → ℕ → Bytes
rule_lines area heads bodies n m = joined (map (rule_text (names_in area n)) (rules_in (rule_tables heads bodies) m))

-- the whole text
abbrev pub text_in : Bytes → List ℕ → List ℕ → ℕ → ℕ → Bytes
text_in area heads bodies n m = written (names_in area n) (rules_in (rule_tables heads bodies) m)

-- a name of a lent name area, and those with the numbers xs, each after a space
abbrev pub name_of : Names → ℕ → Bytes
name_of t a = get_or (names_in t.area t.count) a []

unfoldable pub rest : Names → List ℕ → Bytes
rest t xs = spaced_on (map (name_of t) xs)

-- a line, the lines and the text of lent tables
abbrev pub line : Tables → ℕ → Bytes
line t j = line_of t.names.area t.rules.tables.heads t.rules.tables.bodies t.names.count j

abbrev pub lines : Tables → Bytes
lines t = rule_lines t.names.area t.rules.tables.heads t.rules.tables.bodies t.names.count t.rules.count

abbrev pub text_of : Tables → Bytes
text_of t = text_in t.names.area t.rules.tables.heads t.rules.tables.bodies t.names.count t.rules.count

-- no line is longer
abbrev pub line_bytes : ℕ
line_bytes = (names + 2) * (name_bytes + 1)
