-- `ways::Rules::of` meets its contract: tables in order are long enough, and their rules no more than there may be. Assumes nothing.
use Rattle.ways.proofs.Judged.{fit}
use Rattle.ways.proofs.Rules.of.Goals as goal

pub of-requires : goal.of-requires
of-requires c = (c.requires.long.0, c.requires.long.1, (fit _ c.requires).few)

pub invariant_of-result : goal.invariant_of-result
invariant_of-result c = rw c.of.ensures (c.requires, fit _ c.requires)
