-- The names of a book, and those that are held.
-- Assumes nothing.
use Rattle.std.specs.Prelude.{List}
use Rattle.sets.specs.Set.{Set}
use Rattle.grammar.specs.Bytes.{Bytes}
use Rattle.tables.specs.Areas.{names_in}
use Rattle.systems.specs.Rounds.{model_in}
use Rattle.listing.specs.declared.names.Names.{Names}

-- the names
abbrev pub spelt : Names → List Bytes
spelt x = names_in x.names.area x.names.count

-- the numbers held, those of helpers with them
abbrev pub held : Names → Set
held x = model_in x.model.now
