-- One round over the rule tables. Document 01: "next is the set of heads of rules whose body lies in the set".
-- Assumes nothing.
use Rattle.std.specs.Prelude.{ℕ, ◌*◌, get_or}
use Rattle.limits.specs.Book.{word_bits, body_words}
use Rattle.sets.specs.Set.{Set, within, image}
use Rattle.tables.specs.Areas.{RuleTables}
use Rattle.systems.specs.Rows.{row_in}

-- the heads of the first m rules of the tables whose body lies in v, every bit of its two words
unfoldable pub heads_from : RuleTables → ℕ → Set → Set
heads_from tables m v =
    image m (λ j. get_or tables.heads j 0) (λ j. within (body_words * word_bits) (row_in body_words tables.bodies j) v)
