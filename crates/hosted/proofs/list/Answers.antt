use mathlib.Core.Path.{◌≡◌, sym, subst, ◌∙◌}
use Rattle.std.specs.Prelude.{Err}
use borrow.Author.Rules.{rules}
use Rattle.grammar.specs.Letters.{FoldTable, our_table}
use Rattle.grammar.proofs.Letters.{our_table_lem}
use Rattle.hosting.proofs.Calls.{list_seen}
use Rattle.hosted.proofs.list.Goals as goal

pub of-folding-requires : goal.of-folding-requires
of-folding-requires c = subst FoldTable (sym c.folding-table.ensures) our_table_lem

pub returns-in_err-solved-clause-listed : goal.returns-in_err-solved-clause-listed
returns-in_err-solved-clause-listed c =
    let r : c.from_residual.result ≡ Err c.in_err-solved.field-0.0 = search rules in
    rw r (list_seen our_table _ _ _ (c.of-folding.ensures ∙ c.folding-table.ensures) _ c.in_err-solved.ensures.solved)

pub returns-clause-listed : goal.returns-clause-listed
returns-clause-listed c = list_seen our_table _ _ _ (c.of-folding.ensures ∙ c.folding-table.ensures) _ c.in_ok-solved.ensures.solved
