use native.Mathlib.Omega.{arith}
use mathlib.Core.Path.{ap}
use Prim.Native.Nat.{ℕ, ◌+◌}
use borrow.Author.Rules.{rules}
use Rattle.placing.proofs.Filling.{marks_long, placed_start, c_small, helper_small, home_small, rule_placed, placed_all}
use Rattle.placing.proofs.Rows.fill.Goals as goal

pub loop-j-init : goal.loop-j-init
loop-j-init c = record { placed = placed_start c.requires (search rules); same = search rules }

pub house-home-requires : goal.house-home-requires
house-home-requires c =
    (c.head.ensures.name, marks_long c.requires, helper_small c.requires c.loop-j.invariant.placed (omega arith) c.head.ensures.head)

pub place-requires : goal.place-requires
place-requires c =
    let e = c.house-home.ensures in
    (home_small c.requires c.loop-j.invariant.placed (omega arith) c.head.ensures.head e.home e.next e.any, c.body.ensures.long)

pub overflow_add-c : goal.overflow_add-c
overflow_add-c c = omega (arith, c_small c.requires c.loop-j.invariant.placed (omega arith) _ c.from-c.ensures)

pub loop-j-preserved : goal.loop-j-preserved
loop-j-preserved c =
    let e = c.house-home.ensures in
    let f = rw (e.all, e.model) at c.place.ensures in
    record {
      placed =
          rw f.any (rule_placed c.requires c.loop-j.invariant.placed (omega arith) c.head.ensures.head e.home e.next e.any
          c.body.ensures.body f.body f.all f.model (ap (λ (k : ℕ). c.loop-j.c + k) c.from-c.ensures));
      same = search rules;
    }

pub returns-clause-filled : goal.returns-clause-filled
returns-clause-filled c = placed_all c.requires c.loop-j.invariant.placed (omega arith)
