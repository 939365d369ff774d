-- The atoms that a walk over a row has before it.
-- Assumes nothing.
use Rattle.std.specs.Prelude.{List, ℕ, ◌-◌, ◌*◌, length}
use Rattle.limits.specs.Book.{word_bits}
use Rattle.sets.specs.Set.{members}
use Rattle.words.specs.Row.{row}
use Rattle.rows.specs.declared.members.Members.{Members}

-- the atoms of a row from place a on, rising
unfoldable pub atoms_from : List ℕ → ℕ → List ℕ
atoms_from ws a = members (length ws * word_bits - a) (row ws) a

-- those still to come
abbrev pub left : Members → List ℕ
left it = atoms_from it.words.now it.from
