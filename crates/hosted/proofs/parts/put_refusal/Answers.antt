use mathlib.Core.Path.{sym, ◌∙◌}
use Rattle.std.proofs.Common.{rules}
use Rattle.hosted.proofs.Refusals.{Begun, first_room, second_room, end_room, line_put, line_next}
use Rattle.hosted.proofs.parts.put_refusal.Goals.{After-new-text}
use Rattle.hosted.proofs.parts.put_refusal.Goals as goal

-- nothing is put yet
begins : (c : After-new-text) → Begun c.args.number c.args.line c.args.area.now c.new-text.result
begins c = record { fits = c.requires; front = c.new-text.ensures.end; empty = c.new-text.ensures.area }

pub put_field-requires : goal.put_field-requires
put_field-requires c = first_room (begins (goal.at.put_field-requires c).After-new-text)

pub put_field-requires-2 : goal.put_field-requires-2
put_field-requires-2 c = second_room (begins (goal.at.put_field-requires-2 c).After-new-text) c.put_field.ensures

pub put_byte-requires : goal.put_byte-requires
put_byte-requires c = end_room (begins (goal.at.put_byte-requires c).After-new-text) c.put_field.ensures c.put_field-2.ensures

pub returns : goal.returns
returns c =
    let same = sym (c.put_byte.ensures.same ∙ c.put_field-2.ensures.same ∙ c.put_field.ensures.same ∙ c.new-text.ensures.same) in
    let b = begins (goal.at.returns c).After-new-text in
    let put = line_put b c.put_field.ensures c.put_field-2.ensures c.put_byte.ensures in
    record {
      next = c.end.ensures ∙ line_next b c.put_field.ensures c.put_field-2.ensures c.put_byte.ensures;
      text = search (rules, same, put);
    }
