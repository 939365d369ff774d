-- The listing depends on the set of held names only below the number of names.
-- Assumes nothing.
use mathlib.Core.Path.{◌≡◌, refl, ap₂}
use mathlib.Core.Bool.{Bool}
use mathlib.Core.List.{List, [], ◌∷◌, map}
use Prim.Native.Nat.{ℕ, zero, suc, ◌+◌, ◌≤◌, ◌<◌}
use native.Mathlib.Omega.{arith}
use lib.ListN.{length, get_or}
use Rattle.limits.specs.Book.{listing_bytes}
use Rattle.sets.specs.Set.{Set, Same, pick, members}
use Rattle.sets.proofs.Counting.{count_same}
use Rattle.grammar.specs.Bytes.{Bytes}
use Rattle.grammar.specs.Grammar.{joined}
use Rattle.areas.specs.Area.{filled}
use Rattle.solving.specs.Listing.{head_line, held_names, listing_lines, listed}
use Rattle.listing.specs.Write.{listing_of}

-- the members among the k numbers from i on
members_same : (k : ℕ) (f g : Set) (i : ℕ) → ((a : ℕ) → i ≤ a → a < i + k → f a ≡ g a) → members k f i ≡ members k g i
unfolding members
members_same zero f g i s = refl
members_same (suc k) f g i s =
    ap₂ (λ (b : Bool) (xs : List ℕ). pick b (i ∷ xs) xs) (s i (omega arith) (omega arith))
    (members_same k f g (suc i) (λ a l b. s a (omega arith) (omega arith)))

-- the count, the lines, and so the area
pub listing_same : (ns : List Bytes) (f g : Set) (k rounds : ℕ) (old : Bytes) → Same (length ns) f g
    → listing_of ns f k rounds old ≡ listing_of ns g k rounds old
unfolding listing_of listed listing_lines held_names
listing_same ns f g k rounds old s =
    ap₂
    (λ (n : ℕ) (held : List ℕ).
    let text : Bytes = joined (head_line (length ns) n k rounds ∷ map (λ a. get_or ns a []) held) in
    record { held = n; end = length text; area = filled listing_bytes text old })
    (count_same (length ns) f g s) (members_same (length ns) f g 0 (λ a l b. s a (omega arith)))
