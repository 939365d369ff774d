-- The bucket of a name in the reader's index.
-- Assumes nothing.
use Rattle.std.specs.Prelude.{[], ◌∷◌, ℕ, ◌+◌, ◌*◌, ◌%◌}
use Rattle.limits.specs.Book.{names}
use Rattle.grammar.specs.Bytes.{Bytes}

-- how many buckets there are: twice as many as names
abbrev pub buckets : ℕ
buckets = 2 * names

-- one byte more
unfoldable pub hash_step : ℕ → ℕ → ℕ
hash_step h b = (h * 31 + b) % buckets

unfoldable pub hash_from : ℕ → Bytes → ℕ
hash_from h [] = h
hash_from h (b ∷ s) = hash_from (hash_step h b) s

-- the bucket of a folded name
abbrev pub hash_of : Bytes → ℕ
hash_of s = hash_from 0 s
