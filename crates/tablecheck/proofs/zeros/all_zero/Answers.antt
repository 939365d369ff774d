use Rattle.std.proofs.Common.{sym, ap, ◌∙◌, ◌&&◌, eqb}
use mathlib.Core.Bool.{and-true}
use Rattle.std.specs.List.{list_all}
use Rattle.std.proofs.lemmas.List.{at_drop_all}
use Rattle.tablecheck.proofs.Words.{zeros_by}
use Rattle.tablecheck.proofs.zeros.all_zero.Goals as goal

pub returns : goal.returns
returns g c =
    sym (at_drop_all (λ xs. c.loop-x.zeros && list_all (λ x. eqb (g.T.Entry.number x) 0) xs) _ _ c.loop-x-test.false ∙ and-true _)
    ∙ c.loop-x.invariant
    ∙ ap (list_all (λ x. eqb (g.T.Entry.number x) 0)) c.between-part.ensures ∙ sym (zeros_by g.T.Entry.number _ _ _)
