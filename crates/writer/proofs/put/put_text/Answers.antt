-- `writer::put::put_text` meets its contract. The mark, then the lines. Assumes nothing.
use mathlib.Core.Path.{sym, ◌∙◌}
use Rattle.std.proofs.Common.{rules}
use Rattle.writer.proofs.Rules.{mark_room, lines_room, text_done}
use Rattle.writer.proofs.put.put_text.Goals as goal

pub put-requires : goal.put-requires
put-requires c = mark_room c.args.tables.now c.new-text.result _ c.new-text.ensures.end c.new-text.ensures.area c.requires

pub put_rules-requires : goal.put_rules-requires
put_rules-requires c = lines_room c.args.tables.now c.new-text.result _ c.new-text.ensures.end c.new-text.ensures.area c.requires c.put.ensures

pub returns : goal.returns
returns c =
    let same = sym (c.put_rules.ensures.same ∙ c.put.ensures.same ∙ c.new-text.ensures.same) in
    let done = text_done c.args.tables.now c.new-text.result _ c.new-text.ensures.end c.new-text.ensures.area c.requires
    c.put.ensures c.put_rules.ensures in
    search (rules, same, done)
