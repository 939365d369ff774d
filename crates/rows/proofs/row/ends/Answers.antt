-- `rows::row::ends` meets its contract. Assumes nothing.
use Rattle.rows.proofs.Atoms.{ends_is}
use Rattle.rows.proofs.row.ends.Goals as goal

pub returns : goal.returns
returns c = ends_is c.args.words.now c.args.a c.requires.0 c.next.result c.next.ensures c.is_none.result c.is_none.ensures
