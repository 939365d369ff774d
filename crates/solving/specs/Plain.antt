-- The plain route's call. Document 01: "from the empty set, next is the set of heads of rules whose body lies in the set, until a round
-- changes nothing; it .. leaves its last set in the model area."
-- Assumes nothing.
use Rattle.std.specs.Prelude.{Bool, ◌||◌, List, ℕ, ltb, length}
use Rattle.limits.specs.Book.{row_words}
use Rattle.sets.specs.Set.{pick, count}
use Rattle.program.specs.Program.{Program, plain_held, plain_rounds}
use Rattle.tables.specs.Areas.{RuleTables, Counts, program_in}
use Rattle.systems.specs.Rows.{below}
use Rattle.systems.specs.Rounds.{with_model}
use Rattle.systems.specs.Standardise.{short_rules, formed_tables}

-- what the call returns and leaves
pub record PlainOutcome : Type 0 where
  pub number : ℕ
  pub held : ℕ
  pub rounds : ℕ
  pub model : List ℕ

-- an area shorter than its stated size
unfoldable pub short_plain : RuleTables → List ℕ → Bool
short_plain tables model = short_rules tables || ltb (length model) row_words

-- a refusal leaves all as it was
abbrev pub plain_refusal : ℕ → List ℕ → PlainOutcome
plain_refusal number model = record { number = number; held = 0; rounds = 0; model = model }

-- the rounds over a program's rules, and the last set in the model area, zero from its names on
unfoldable pub plain_of : Program → List ℕ → PlainOutcome
plain_of p model =
    record {
      number = 0;
      held = count p.names (plain_held p);
      rounds = plain_rounds p;
      model = with_model (below p.names (plain_held p)) model;
    }

-- areas too short, tables ill formed; else the rounds over the rules
unfoldable pub plain_call : RuleTables → Counts → List ℕ → PlainOutcome
plain_call tables counts model =
    pick (short_plain tables model) (plain_refusal 1 model)
    (pick (formed_tables tables counts) (plain_of (program_in tables counts) model) (plain_refusal 10 model))
