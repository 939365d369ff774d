-- `scan::cursor::Cursor::sees` meets its contract: the byte at the place, or none past the end. Assumes nothing.
use mathlib.Core.Path.{◌∙◌}
use native.Mathlib.Omega.{arith}
use Rattle.scan.proofs.Scans.{sees_get}
use Rattle.scan.proofs.cursor.Cursor.sees.Goals as goal

pub returns : goal.returns
returns c =
    let k = c.get.ensures.lookup in
    c.eq.ensures ∙ sees_get c.args.text.now c.args.self.at _ _ c.get.result k.3 (k.4 (omega arith) 0)
