use Rattle.std.proofs.Common.{◌≡◌, ◌<◌, length, get_or, arith, rules, tests}
use Rattle.std.proofs.lemmas.List.{length_push}
use Rattle.std.proofs.lemmas.Iterator.Consumers.{YieldsList-turn, YieldsList-end}
use Rattle.listing.proofs.Lines.{numbers, walk, line_room, onward, all_put}
use Rattle.listing.proofs.names.Names.put.Goals.{In-Some}
use Rattle.listing.proofs.names.Names.put.Goals as goal

-- the loop comes to the next number
turn : (c : In-Some) → (length c.loop-a.yielded < length (numbers c.args.self.now))
    × (c.in-Some.a ≡ get_or (numbers c.args.self.now) (length c.loop-a.yielded) c.in-Some.a)
turn c =
    YieldsList-turn (walk c.args.self.now c.name_count-count.ensures.count c.name_count-count.ensures.bound _
    c.into_iter-a-iterator.ensures.into_iter_gives (cc) c.take_while-a-items.ensures.closure c.take_while-a-items.ensures.done (λ x b q k. search (rules, tests)))
    c.loop-a.yielded _ c.loop-a.yielded_by _ _ c.in-Some.a c.in-Some.is c.next.ensures.steps

pub put-requires : goal.put-requires
put-requires c =
    omega (
      arith,
      line_room c.args.self.now (turn (goal.at.put-requires c).In-Some) c.spelt.ensures.bytes c.requires c.loop-a.invariant,
    )

pub put_byte-requires : goal.put_byte-requires
put_byte-requires c =
    omega (
      arith,
      c.put.ensures,
      line_room c.args.self.now (turn (goal.at.put_byte-requires c).In-Some) c.spelt.ensures.bytes c.requires c.loop-a.invariant,
    )

pub loop-a-preserved : goal.loop-a-preserved
loop-a-preserved c =
    onward c.args.self.now (turn (goal.at.loop-a-preserved c).In-Some) c.spelt.ensures.bytes c.requires c.loop-a.invariant
    c.put.ensures c.put_byte.ensures (length_push c.loop-a.yielded c.in-Some.a)

pub returns : goal.returns
returns c =
    let t = YieldsList-end (walk c.args.self.now c.name_count-count.ensures.count c.name_count-count.ensures.bound _
    c.into_iter-a-iterator.ensures.into_iter_gives (cc) c.take_while-a-items.ensures.closure c.take_while-a-items.ensures.done (λ x b q k. search (rules, tests)))
    c.loop-a.yielded _ c.loop-a.yielded_by _ _ c.in-None.is c.next.ensures.steps in
    all_put c.args.self.now t.1 c.loop-a.invariant
