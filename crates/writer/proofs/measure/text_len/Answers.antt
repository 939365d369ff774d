-- `writer::measure::text_len` meets its contract: the mark, and the sum of the lines, each with its end. Assumes nothing.
use Rattle.std.proofs.Common.{rules, ◌≡◌, ap, arith}
use Rattle.std.specs.List.{sum_by, range_with_len}
use Rattle.std.proofs.lemmas.Iterator.Consumers.{sum_by_from_yields_List, fits_by_from_yields_list}
use Rattle.writer.proofs.Lengths.{line_step, lines_walk, text_sum, text_small}
use Rattle.writer.proofs.measure.text_len.Goals as goal

pub sum-requires-clause-fits : goal.sum-requires-clause-fits
sum-requires-clause-fits c =
    fits_by_from_yields_list (line_step c.args.tables.now) (range_with_len 0 c.rule_count.result) c.map.result _
    (lines_walk c.args.tables.now c.rule_count.result c.map.ensures.source c.map.ensures.closure (λ x r q k. search rules))
    (omega (arith, c.rule_count.ensures.bound, text_small c.args.tables.now c.rule_count.result))

summed : (c : goal.After-sum) → c.sum.result ≡ sum_by (line_step c.args.tables.now) (range_with_len 0 c.rule_count.result)
summed c =
    sum_by_from_yields_List (line_step c.args.tables.now) (range_with_len 0 c.rule_count.result) c.map.result _ c.sum.ensures.ran
    (lines_walk c.args.tables.now c.rule_count.result c.map.ensures.source c.map.ensures.closure (λ x r q k. search rules))

pub overflow_add-result : goal.overflow_add-result
overflow_add-result c = omega (arith, summed c, c.rule_count.ensures.bound, text_small c.args.tables.now c.rule_count.result)

pub returns : goal.returns
returns c =
    let all : sum_by (line_step c.args.tables.now) (range_with_len 0 c.rule_count.result)
    ≡ sum_by (line_step c.args.tables.now) (range_with_len 0 c.args.tables.now.rules.count) =
    ap (λ m. sum_by (line_step c.args.tables.now) (range_with_len 0 m)) c.rule_count.ensures.count in
    omega (arith, summed c, all, text_sum c.args.tables.now)
