use mathlib.Core.Path.{refl}
use mathlib.Core.List.{[], ◌∷◌}
use Rattle.grammar.specs.Bytes.{space}
use Rattle.copying.proofs.Texts.{left_end, part_room, left_on}
use Rattle.writer.proofs.Lines.{rest_end, rest_on}
use Rattle.writer.proofs.Rules.{spaced}
use Rattle.writer.proofs.put.put_rest.Goals as goal

pub put_byte-requires : goal.put_byte-requires
put_byte-requires c = part_room c.requires c.loop-a.invariant (space ∷ []) _ (rest_on _ _ _ _ c.in-Some.ensures.steps) refl

pub put-requires : goal.put-requires
put-requires c = part_room c.requires (spaced _ _ _ _ c.loop-a.invariant c.in-Some.ensures.steps c.put_byte.ensures) _ _ refl c.spelt.ensures.bytes

pub loop-a-preserved : goal.loop-a-preserved
loop-a-preserved c = left_on (spaced _ _ _ _ c.loop-a.invariant c.in-Some.ensures.steps c.put_byte.ensures) refl c.spelt.ensures.bytes c.put.ensures

pub returns : goal.returns
returns c = left_end c.loop-a.invariant (rest_end _ _ c.in-None.ensures.steps.0)
