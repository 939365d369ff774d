-- `writer::put::put_rules` meets its contract. The loop's invariant: the rules from j on are left to put. Assumes nothing.
use Rattle.tables.specs.Areas.{names_in}
use Rattle.copying.proofs.Texts.{Left}
use Rattle.writer.specs.Spelt.{lines}
use Rattle.writer.proofs.Lines.{lines_from}
use Rattle.writer.proofs.put.put_rules.Given as goal

abbrev pub invariant-loop-j : goal.invariant-loop-j
invariant-loop-j l =
    Left l.initial.text (lines l.tables)
    (lines_from (names_in l.tables.names.area l.tables.names.count) l.tables.rules.tables l.tables.rules.count l.j) l.text
