-- `tablecheck::zeros::all_zero` meets its contract. The loop's invariant: whether the entries passed are zero, and those that are left, is whether all
-- are. Assumes nothing.
use mathlib.Core.Path.{◌≡◌}
use mathlib.Core.Bool.{◌&&◌}
use lib.Dec.{eqb}
use lib.ListN.{drop}
use Rattle.std.specs.List.{list_all}
use Rattle.tablecheck.proofs.zeros.all_zero.Given as goal

abbrev pub invariant-loop-x : goal.invariant-loop-x
invariant-loop-x g l =
    (l.zeros && list_all (λ x. eqb (g.T.Entry.number x) 0) (drop l.x-index l.part)) ≡ list_all (λ x. eqb (g.T.Entry.number x) 0) l.part
