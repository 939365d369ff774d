-- The names that an index is of.
-- Assumes nothing.
use Rattle.std.specs.Prelude.{List}
use Rattle.grammar.specs.Bytes.{Bytes}
use Rattle.tables.specs.Areas.{names_in}
use Rattle.lexicon.specs.declared.Index.{Index}
use Rattle.lexicon.specs.Index.{Indexed}

-- the names, in the order of their numbers
abbrev pub names_held : Index → List Bytes
names_held i = names_in i.spellings.now i.count

-- its tables are their index
abbrev pub IndexHeld : Index → Type 0
IndexHeld i = Indexed (names_held i) i.first.now i.prior.now
