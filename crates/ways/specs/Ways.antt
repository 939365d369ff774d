-- Names by how many rules have them as head.
-- Document 01: "Each rule whose head has two or more rules gets a further atom, in book order; call these helpers."
-- Assumes nothing.
use Rattle.std.specs.Prelude.{List, ℕ, eqb, leb, get_or}
use Rattle.limits.specs.Book.{body_words}
use Rattle.sets.specs.Set.{Set, only, union, count}
use Rattle.areas.specs.Area.{part, put}
use Rattle.words.specs.Row.{row, pack}

-- the names that are the head of one or more of the first m rules
unfoldable pub met_names : List ℕ → ℕ → Set
met_names heads m a = leb 1 (count m (λ j. eqb (get_or heads j 0) a))

-- the names that are the head of two or more of them
unfoldable pub several_names : List ℕ → ℕ → Set
several_names heads m a = leb 2 (count m (λ j. eqb (get_or heads j 0) a))

-- a row over names with name a in it
abbrev pub with_name : ℕ → List ℕ → List ℕ
with_name a area = put 0 (pack body_words (union (row (part 0 body_words area)) (only a))) area
