-- Places in a text: the end of a run, and the run of name bytes there.
-- Assumes nothing.
use Rattle.std.specs.Prelude.{Bool, map, ℕ, ◌+◌, drop}
use Rattle.grammar.specs.Bytes.{Bytes, name_byte}
use Rattle.grammar.specs.Lines.{span, run}

-- the first place past the run at i whose bytes pass the test
abbrev pub past_at : (ℕ → Bool) → Bytes → ℕ → ℕ
past_at p t i = i + span p (drop i t)

-- the run of name bytes at i, as it stands and folded
abbrev pub name_run : (ℕ → ℕ) → Bytes → ℕ → Bytes
name_run fold t i = run (name_byte fold) (drop i t)

abbrev pub name_folded : (ℕ → ℕ) → Bytes → ℕ → Bytes
name_folded fold t i = map fold (name_run fold t i)
