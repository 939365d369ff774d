-- `scan::letters::any_reserved` meets its contract: the bytes of the list are the reserved ones. Assumes nothing.
use Rattle.std.proofs.Common.{rules, tests}
use Rattle.std.proofs.lemmas.Iterator.{YieldsList-from_slice}
use Rattle.std.proofs.lemmas.Iterator.Search.{any_from_yields_List}
use Rattle.scan.proofs.Tables.{listed, taken, any_listed}
use Rattle.scan.proofs.letters.any_reserved.Goals as goal

pub returns : goal.returns
returns c =
    let t = c.args.table.now in
    any_listed t _
    (any_from_yields_List (taken t) _ _ c.any.result c.any.ensures.ran (YieldsList-from_slice listed cc)
    (λ x b q k. search (rules, tests)))
