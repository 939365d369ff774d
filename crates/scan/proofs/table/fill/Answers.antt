-- `scan::table::fill` meets its contract: an area that is too short stays as it was, and any other has our table. Assumes nothing.
use mathlib.Core.Path.{◌≡◌, sym, ap, ◌∙◌}
use mathlib.Core.List.{List, ◌++◌}
use Prim.Native.Nat.{ℕ}
use lib.ListN.{drop}
use Rattle.areas.specs.Area.{begun}
use Rattle.limits.specs.Book.{letter_bytes}
use Rattle.grammar.specs.Letters.{our_table}
use Rattle.grammar.proofs.Letters.{length_ours}
use Rattle.grammar.proofs.Fill.{fill_short, fill_long}
use Rattle.scan.proofs.table.fill.Goals as goal

-- our table in front of the rest
front_laid : (old entries : List ℕ) → entries ≡ our_table → entries ++ drop letter_bytes old ≡ begun our_table old
unfolding begun
front_laid old entries e = ap (λ (t : List ℕ). t ++ drop letter_bytes old) e ∙ ap (λ (n : ℕ). our_table ++ drop n old) (sym length_ours)

pub returns-in_default : goal.returns-in_default
returns-in_default c = sym (fill_short _ c.in_default.ensures.cases)

pub returns : goal.returns
returns c =
    ap (λ (t : List ℕ). record { number = 0; area = t }) (front_laid c.args.area.now _ c.put_table.ensures)
    ∙ sym (fill_long _ c.in-Some.ensures.cases.enough)
