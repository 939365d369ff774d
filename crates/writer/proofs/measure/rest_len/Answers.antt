-- `writer::measure::rest_len` meets its contract: the sum of the names, each with the space before it. Assumes nothing.
use Rattle.std.proofs.Common.{rules, ◌≡◌, ◌∙◌, arith}
use Rattle.std.specs.List.{sum_by}
use Rattle.std.proofs.lemmas.Iterator.Consumers.{sum_by_from_yields_List, fits_by_from_yields_list}
use Rattle.rows.specs.Members.{left}
use Rattle.writer.proofs.Lengths.{step, rest_sum, rest_small, walk}
use Rattle.writer.proofs.measure.rest_len.Goals as goal

pub sum-requires-clause-fits : goal.sum-requires-clause-fits
sum-requires-clause-fits c =
    fits_by_from_yields_list (step c.args.lent.now) (left c.args.members) c.map.result _
    (walk c.args.lent.now c.args.members c.map.ensures.source c.map.ensures.closure (λ x r q k. search rules))
    (omega (arith, c.requires, rest_small c.args.lent.now (left c.args.members)))

pub returns : goal.returns
returns c =
    let total : c.sum.result ≡ sum_by (step c.args.lent.now) (left c.args.members) =
    sum_by_from_yields_List (step c.args.lent.now) (left c.args.members) c.map.result _ c.sum.ensures.ran
    (walk c.args.lent.now c.args.members c.map.ensures.source c.map.ensures.closure (λ x r q k. search rules)) in
    record {
      len = total ∙ rest_sum c.args.lent.now (left c.args.members);
      bound = omega (arith, c.requires, total, rest_small c.args.lent.now (left c.args.members));
    }
