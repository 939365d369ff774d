-- `scan::letters::any_unsettled` meets its contract: each of the 256 entries is looked at. Assumes nothing.
use native.Mathlib.Omega.{arith}
use Rattle.std.proofs.Common.{rules, tests}
use Rattle.std.proofs.lemmas.Iterator.{YieldsList-from_slice}
use Rattle.std.proofs.lemmas.Iterator.Search.{any_from_yields_List}
use Rattle.scan.proofs.Tables.{stray, any_stray}
use Rattle.scan.proofs.letters.any_unsettled.Goals as goal

pub returns : goal.returns
returns c =
    let t = c.args.table.now in
    any_stray t _ (omega arith) (λ b. omega (arith, c.fits-table b))
    (any_from_yields_List (stray t) _ _ c.any.result c.any.ensures.ran (YieldsList-from_slice t cc)
    (λ x b q k. search (rules, tests)))
