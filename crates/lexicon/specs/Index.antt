-- The reader's index of names: for each bucket its last name, and for each name the one before it in its bucket.
-- Assumes nothing.
use Rattle.std.specs.Prelude.{◌≡◌, Bool, true, false, ◌||◌, List, [], ◌∷◌, ◌++◌, map, ℕ, zero, suc, ◌+◌, ◌*◌, ◌<◌, ◌≤◌, eqb, leb, ltb, length, get_or}
use Rattle.limits.specs.Book.{names, name_bytes}
use Rattle.sets.specs.Set.{pick}
use Rattle.areas.specs.Area.{part, put}
use Rattle.grammar.specs.Bytes.{Bytes, all_of}
use Rattle.grammar.specs.Lines.{is_name}
use Rattle.tables.specs.Numbering.{same_bytes, place}
use Rattle.tables.specs.Areas.{nonzero, padded}
use Rattle.scan.specs.Hash.{buckets, hash_of}

-- the last of the first k names that lies in bucket b, counted from 1; 0 for none
unfoldable pub latest : List Bytes → ℕ → ℕ → ℕ
latest ns b zero = zero
latest ns b (suc k) = pick (eqb (hash_of (get_or ns k [])) b) (suc k) (latest ns b k)

-- the two tables are the index of the names, no two of which are the same
pub record Indexed (ns : List Bytes) (first prior : List ℕ) : Type 0 where
  pub first_size : length first ≡ buckets
  pub prior_size : length prior ≡ names
  pub firsts : (b : ℕ) → b < buckets → get_or first b 0 ≡ latest ns b (length ns)
  pub priors : (a : ℕ) → a < length ns → get_or prior a 0 ≡ latest ns (hash_of (get_or ns a [])) a
  pub distinct : (a b : ℕ) → a < b → b < length ns → same_bytes (get_or ns a []) (get_or ns b []) ≡ false

-- the folded word of len bytes from place `at`
abbrev pub word_at : (ℕ → ℕ) → Bytes → ℕ → ℕ → Bytes
word_at fold text at len = map fold (part at len text)

-- a name stands there
abbrev pub NameAt : (ℕ → ℕ) → Bytes → ℕ → ℕ → Type 0
NameAt fold text at len = (at + len ≤ length text) × (is_name fold (part at len text) ≡ true)

-- fit for a row of the name area: at most 32 bytes, none of them zero
abbrev pub Storable : Bytes → Type 0
Storable w = (length w ≤ name_bytes) × (all_of nonzero w ≡ true)

-- w is one of the names, or there is no room for another
unfoldable pub none_added : List Bytes → Bytes → Bool
none_added ns w = ltb (place ns w) (length ns) || leb names (length ns)

-- the names after w is met, where there is room
unfoldable pub entered : List Bytes → Bytes → List Bytes
entered ns w = pick (none_added ns w) ns (ns ++ (w ∷ []))

-- the name area then: a new name's row follows the others
unfoldable pub entered_area : List Bytes → Bytes → Bytes → Bytes
entered_area ns w area = pick (none_added ns w) area (put (length ns * name_bytes) (padded w) area)
