use Rattle.std.proofs.Common.{rules, length, Bor, ℕ}
use Rattle.std.proofs.lemmas.List.{length_push}
use Rattle.std.proofs.lemmas.Slice.Zip.{zip_turn}
use Rattle.rows.proofs.Reading.{within_on}
use Rattle.sets.specs.Set as Set
use Rattle.rows.proofs.row.within.Goals as goal

pub loop-x-init : goal.loop-x-init
unfolding Set.within Set.every
loop-x-init c = search rules

pub loop-x-preserved : goal.loop-x-preserved
loop-x-preserved c =
    let a = c.args.a.now in
    let b = c.args.b.now in
    let xs = c.loop-x.yielded in
    let p : Bor ℕ × Bor ℕ = (c.in-Some.x, c.in-Some.y) in
    let t = zip_turn a b xs c.into_iter-x-iterator.result c.loop-x.x-iterator c.next.new.self c.next.result (search rules) (search rules)
    c.loop-x.yielded_by p c.in-Some.is c.next.ensures.steps in
    rw (length_push xs p, t.2 0, t.3 0) (within_on a b c.type_inv.a c.type_inv.b (length xs) c.loop-x.past c.loop-x.invariant)
