-- `rows::clear::clear` meets its contract: the part comes back all zero. Assumes nothing.
use Rattle.std.proofs.Common.{◌∙◌, ap}
use Rattle.areas.specs.Area.{cleared_to}
use Rattle.areas.proofs.Filled.{part_cleared}
use Rattle.rows.proofs.clear.clear.Goals as goal

pub fill-requires : goal.fill-requires
fill-requires g c = (g.met.T.Entry.clones c.ZERO.result c.ZERO.result).0

pub returns : goal.returns
returns g c =
    part_cleared c.ZERO.result _ _ _ _ c.requires.0 c.requires.1
    (c.fill.ensures.after (λ y. (g.met.T.Entry.clones c.ZERO.result y).1))
    ∙ ap (λ z. cleared_to z c.args.from c.args.to c.args.area.now) c.ZERO.ensures
