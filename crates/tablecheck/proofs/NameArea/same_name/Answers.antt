use mathlib.Core.Path.{◌∙◌}
use native.Mathlib.Omega.{arith}
use Rattle.tablecheck.proofs.Alike.{alike_start, alike_on, alike_zero, alike_off}
use Rattle.tablecheck.proofs.NameArea.same_name.Goals as goal

pub loop-k-init : goal.loop-k-init
loop-k-init c = alike_start c.args.a c.args.b c.args.self.now.area _ _ c.name_row-x.ensures.bytes c.name_row-y.ensures.bytes

pub returns-then-x-k : goal.returns-then-x-k
returns-then-x-k c =
    alike_off c.loop-k.k _ _ (omega (arith, c.loop-k-test.true, c.name_row-x.ensures.size)) (omega (arith, c.loop-k-test.true, c.name_row-y.ensures.size))
    c.if-x-k.true
    ∙ c.loop-k.invariant

pub returns-then-x-k-eq0 : goal.returns-then-x-k-eq0
returns-then-x-k-eq0 c =
    alike_zero c.loop-k.k _ _ (omega (arith, c.loop-k-test.true, c.name_row-x.ensures.size)) (omega (arith, c.loop-k-test.true, c.name_row-y.ensures.size))
    c.if-x-k.false c.if-x-k-eq0.true
    ∙ c.loop-k.invariant

pub loop-k-preserved : goal.loop-k-preserved
loop-k-preserved c =
    alike_on c.loop-k.k _ _ (omega (arith, c.loop-k-test.true, c.name_row-x.ensures.size)) (omega (arith, c.loop-k-test.true, c.name_row-y.ensures.size))
    c.if-x-k.false c.if-x-k-eq0.false
    ∙ c.loop-k.invariant
