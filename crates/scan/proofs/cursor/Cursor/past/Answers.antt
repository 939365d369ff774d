use mathlib.Core.Path.{refl, sym, ◌∙◌}
use Rattle.scan.proofs.Scans.{on, stopped, ran_out}
use Rattle.scan.proofs.cursor.Cursor.past.Goals as goal

pub loop-at-init : goal.loop-at-init
loop-at-init g c = λ p k. refl

pub loop-at-preserved : goal.loop-at-preserved
loop-at-preserved g c = λ p k.
    on p c.args.text.now c.loop-at.at _ c.loop-at-test.true (sym (k _ _ c.stays.ensures) ∙ c.if-not-stays.false) (c.loop-at.invariant p k)

pub returns-then-not-stays : goal.returns-then-not-stays
returns-then-not-stays g c = λ p k.
    stopped p c.args.text.now c.args.self c.loop-at.at (c.loop-at.invariant p k) c.loop-at-test.true
    (sym (k _ _ c.stays.ensures) ∙ c.if-not-stays.true) c.moved.ensures

pub returns : goal.returns
returns g c = λ p k.
    let a = c.loop-at.auto in
    ran_out p c.args.text.now c.args.self c.loop-at.at (c.loop-at.invariant p k) a.at-end a.at c.loop-at-test.false c.max.ensures c.moved-2.ensures
