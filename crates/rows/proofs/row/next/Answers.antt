use Rattle.std.proofs.Common.{◌∙◌, rules, arith}
use Rattle.rows.proofs.Walking.{found, found_within, skip, walk_end}
use Rattle.rows.proofs.row.next.Goals as goal

pub returns-then-some : goal.returns-then-some
returns-then-some c = (
  found c.args.words.now c.type_inv.words _ _ _ c.word_of-k.ensures c.bit_of.ensures c.loop-p-test.true (search rules)
      ∙ c.loop-p.invariant.first,
  found_within c.args.words.now c.type_inv.words _ _ _ c.word_of-k.ensures c.bit_of.ensures c.loop-p-test.true (search rules),
)

pub loop-p-preserved : goal.loop-p-preserved
loop-p-preserved c = record {
  inside = search rules;
  first = skip c.args.words.now c.type_inv.words _ _ _ c.word_of-k.ensures c.bit_of.ensures c.loop-p-test.true (search rules)
      ∙ c.loop-p.invariant.first;
}

pub returns : goal.returns
returns c =
    let e = walk_end _ _ _ _ c.loop-p.invariant.inside c.loop-p-test.false c.loop-p.invariant.first in
    omega (arith, c.loop-p.invariant.inside, c.loop-p-test.false)
