-- `writer::put::put_rule` meets its contract. After head and colon, the first name and the rest are put. Assumes nothing.
use Rattle.writer.proofs.Rules.{first_room, names_room, full_done}
use Rattle.writer.proofs.put.put_rule.Goals as goal

pub put-requires-in-Some : goal.put-requires-in-Some
put-requires-in-Some c =
    first_room c.args.tables.now c.args.j c.args.text.now c.requires.room c.head.ensures.head c.spelt.ensures.bytes c.put.ensures
    c.put_byte.ensures _ c.body_names-body.ensures _ _ c.in-Some.ensures.steps c.spelt-in-Some.ensures.bytes

pub put_rest-requires : goal.put_rest-requires
put_rest-requires c =
    names_room c.args.tables.now c.args.j c.args.text.now c.requires.room c.head.ensures.head c.spelt.ensures.bytes c.put.ensures
    c.put_byte.ensures _ c.body_names-body.ensures _ _ c.in-Some.ensures.steps c.spelt-in-Some.ensures.bytes c.put-in-Some.ensures

pub returns-in-Some : goal.returns-in-Some
returns-in-Some c =
    full_done c.args.tables.now c.args.j c.args.text.now c.requires.room c.head.ensures.head c.spelt.ensures.bytes c.put.ensures
    c.put_byte.ensures _ c.body_names-body.ensures _ _ c.in-Some.ensures.steps c.spelt-in-Some.ensures.bytes c.put-in-Some.ensures c.put_rest.ensures
