-- `placing::Rows::begin` meets its contract: where areas were clear, no row past the rows in use is stale. Assumes nothing.
use borrow.Author.Rules.{rules}
use Rattle.placing.proofs.Overwriting.{all_clear, any_clear}
use Rattle.placing.proofs.Rows.begin.Goals as goal

pub clear_stale-requires : goal.clear_stale-requires
clear_stale-requires c =
    (search rules, search rules, λ f. all_clear _ _ _ _ c.requires.few c.row_at-unused.ensures c.all_alone.ensures (c.requires.clear f).0)

pub clear_stale-requires-2 : goal.clear_stale-requires-2
clear_stale-requires-2 c =
    (search rules, search rules, λ f. any_clear _ _ _ _ c.requires.few c.row_at-unused.ensures c.clear.ensures (c.requires.clear f).1)
