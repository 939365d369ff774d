-- The listing as it is written, with what the writer finds on the way.
-- Assumes nothing.
use Rattle.std.specs.Prelude.{List, ℕ, length}
use Rattle.sets.specs.Set.{Set, count}
use Rattle.grammar.specs.Bytes.{Bytes}
use Rattle.grammar.specs.Grammar.{joined}
use Rattle.solving.specs.Listing.{listing_lines, listed}

-- how many names are held, where the text ends, and the listing area afterwards
pub record Listing : Type 0 where
  pub held : ℕ
  pub end : ℕ
  pub area : Bytes

-- the listing of the names ns, held where f has their numbers
unfoldable pub listing_of : List Bytes → Set → ℕ → ℕ → Bytes → Listing
listing_of ns f folds rounds old =
    record {
      held = count (length ns) f;
      end = length (joined (listing_lines ns f folds rounds));
      area = listed ns f folds rounds old;
    }
