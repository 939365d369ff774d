-- The listing. Document 01: "one head line, then each held name in number order", and "The listing area is zero after the text."
-- Assumes nothing.
use Rattle.std.specs.Prelude.{List, [], ◌∷◌, ◌++◌, map, ℕ, zero, suc, ◌+◌, ◌/◌, ◌%◌, ltb, length, get_or}
use Rattle.limits.specs.Book.{listing_bytes}
use Rattle.sets.specs.Set.{Set, pick, count, members}
use Rattle.grammar.specs.Bytes.{Bytes, bytes}
use Rattle.grammar.specs.Grammar.{joined}
use Rattle.areas.specs.Area.{filled}

-- the figure of a number below ten
abbrev pub figure : ℕ → ℕ
figure d = 48 + d

-- the last figures of n, at most `places` of them, without leading zeros
unfoldable pub figures : ℕ → ℕ → Bytes
figures zero n = []
figures (suc places) n = pick (ltb n 10) (figure n ∷ []) (figures places (n / 10) ++ (figure (n % 10) ∷ []))

-- n in base ten
unfoldable pub decimal : ℕ → Bytes
decimal n = figures (suc n) n

-- the head line for n names, the number of those held, the folds and the rounds
unfoldable pub head_line : ℕ → ℕ → ℕ → ℕ → Bytes
head_line n held folds rounds =
    bytes "DPL 0001 names=" ++ (decimal n ++ (bytes " held=" ++ (decimal held
    ++ (bytes " folds=" ++ (decimal folds ++ (bytes " rounds=" ++ decimal rounds))))))

-- the members of f among the names, in number order
unfoldable pub held_names : List Bytes → Set → List Bytes
held_names ns f = map (λ a. get_or ns a []) (members (length ns) f 0)

-- the lines of the listing of the names ns, held where f has their numbers
unfoldable pub listing_lines : List Bytes → Set → ℕ → ℕ → List Bytes
listing_lines ns f folds rounds = head_line (length ns) (count (length ns) f) folds rounds ∷ held_names ns f

-- the listing area: the lines, each with its end, zeros to the stated size, and what lies past that as it was
unfoldable pub listed : List Bytes → Set → ℕ → ℕ → Bytes → Bytes
listed ns f folds rounds old = filled listing_bytes (joined (listing_lines ns f folds rounds)) old
