use mathlib.Core.Path.{refl}
use mathlib.Core.List.{[], ◌∷◌}
use native.Mathlib.Omega.{arith}
use Rattle.grammar.specs.Bytes.{line_end}
use Rattle.writer.proofs.Lines.{lines_start, lines_on, lines_end}
use Rattle.copying.proofs.Texts.{left_start, left_as, left_end, part_room, left_on}
use Rattle.writer.proofs.Rules.{ruled}
use Rattle.writer.proofs.put.put_rules.Goals as goal

pub loop-j-init : goal.loop-j-init
loop-j-init c = left_as (left_start _ _) (lines_start _ _ _)

pub put_rule-requires-clause-room : goal.put_rule-requires-clause-room
put_rule-requires-clause-room c = part_room c.requires c.loop-j.invariant _ _ (lines_on _ _ _ _ (omega arith)) refl

pub put_byte-requires : goal.put_byte-requires
put_byte-requires c = part_room c.requires (ruled _ _ _ _ c.loop-j.invariant (omega arith) c.put_rule.ensures) (line_end ∷ []) _ refl refl

pub loop-j-preserved : goal.loop-j-preserved
loop-j-preserved c = left_on {first = line_end ∷ []} (ruled _ _ _ _ c.loop-j.invariant (omega arith) c.put_rule.ensures) refl refl c.put_byte.ensures

pub returns : goal.returns
returns c = left_end c.loop-j.invariant (lines_end _ _ _ _ (omega arith))
