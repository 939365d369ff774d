-- `scan::table::put_table` meets its contract: zeros, then range after range. Assumes nothing.
use mathlib.Core.Path.{◌≡◌, ap, ◌∙◌}
use Prim.Native.Nat.{ℕ}
use native.Mathlib.Omega.{arith}
use lib.ListN.{length, replicate}
use Rattle.limits.specs.Book.{letter_bytes}
use Rattle.scan.proofs.Ours.{laid}
use Rattle.scan.proofs.table.put_table.Goals as goal

pub returns : goal.returns
returns c =
    let size : length c.args.area.now ≡ letter_bytes = omega arith in
    laid (c.fill.ensures.after (λ y e. e) ∙ ap (λ (n : ℕ). replicate n 0) size) c.fill_range.ensures c.fill_range-2.ensures c.fill_range-3.ensures
    c.fill_range-4.ensures c.fill_range-5.ensures
