-- Tables of rules with how many of their names and rules are in use, and what judging them answers.
-- Document 01: "Refused": an area too short has number 1, tables ill formed have number 10.
-- Assumes nothing.
use Rattle.std.specs.Prelude.{◌≡◌, true, List, ℕ, ◌<◌, ◌≤◌, get_or}
use Rattle.limits.specs.Book.{names, rules}
use Rattle.sets.specs.Set.{pick}
use Rattle.tables.specs.Areas.{RuleTables, Counts}
use Rattle.systems.specs.Standardise.{short_rules, formed_tables}
use Rattle.systems.specs.Claims.{TablesLong}

-- one past the largest number that a head can be
abbrev pub head_end : ℕ
head_end = 65536

-- heads and bodies, and how many rules are in use
pub record CountedRules : Type 0 where
  pub tables : RuleTables
  pub count : ℕ

-- heads and bodies, and their counts
pub record InUse : Type 0 where
  pub tables : RuleTables
  pub counts : Counts

-- n names and m rules of them
abbrev pub in_use : List ℕ → List ℕ → ℕ → ℕ → InUse
in_use heads bodies n m =
    record { tables = record { heads = heads; bodies = bodies }; counts = record { names = n; rules = m } }

-- as long as their stated sizes, the counts within their limits, and every entry in order
pub record InOrder (b : InUse) : Type 0 where
  pub long : TablesLong b.tables
  pub formed : formed_tables b.tables b.counts ≡ true

-- what follows of the rules in use: no more than there may be, and their heads are names
pub record Fit (b : InUse) : Type 0 where
  pub few : b.counts.rules ≤ rules
  pub heads : (j : ℕ) → j < b.counts.rules → get_or b.tables.heads j 0 < names

-- the number that judging them answers, 0 where they are in order
unfoldable pub tables_cause : InUse → ℕ
tables_cause b = pick (short_rules b.tables) 1 (pick (formed_tables b.tables b.counts) 0 10)
