-- `tablecheck::names::own_bytes` meets its contract. Assumes nothing.
use Rattle.std.proofs.Common.{rules, tests, sym, ap, ◌∙◌}
use Rattle.std.proofs.lemmas.Iterator.{YieldsList-from_slice}
use Rattle.std.proofs.lemmas.Iterator.Search.{all_from_yields_List}
use Rattle.grammar.specs.Bytes.{letters, all_of}
use Rattle.tables.specs.Writing.{own}
use Rattle.tablecheck.proofs.Words.{all_of_is}
use Rattle.tablecheck.proofs.names.own_bytes.Goals as goal

pub returns : goal.returns
returns c =
    all_from_yields_List (own (letters c.args.folding.now)) _ _ _ c.all.ensures.ran (YieldsList-from_slice c.between.result.now cc)
    (λ x b q k. search (rules, tests))
    ∙ sym (all_of_is _ _) ∙ ap (all_of (own (letters c.args.folding.now))) c.between.ensures
