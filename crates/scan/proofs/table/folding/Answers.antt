-- `scan::table::folding` meets its contract: an area of 256 bytes, filled. Assumes nothing.
use mathlib.Core.Path.{refl}
use Rattle.grammar.proofs.Fill.{fill_whole}
use Rattle.scan.proofs.table.folding.Goals as goal

pub returns : goal.returns
returns c = fill_whole _ refl _ c.fill.ensures
