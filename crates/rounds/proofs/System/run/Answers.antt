-- `rounds::System::run` meets its contract. One law for each outcome. Assumes nothing.

use mathlib.Core.Path.{◌∙◌}
use Rattle.rounds.proofs.Rising.{kept_is, ready, rounds_are, model_is}
use Rattle.rounds.proofs.Calls.{call_lost, call_done}
use Rattle.rounds.proofs.System.run.Goals as goal

pub returns-then-not-within : goal.returns-then-not-within
returns-then-not-within c =
    call_lost _ _ c.requires.0 c.requires.1
    (kept_is _ _ c.requires.1 c.requires.0 _ _ c.front-start.ensures.front c.step-next.ensures _ c.within.ensures ∙ c.if-not-within.true)

pub until_still-reached-requires : goal.until_still-reached-requires
until_still-reached-requires c =
    ready _ _ c.requires.1 c.requires.0 _ _ c.front-start.ensures.front c.step-next.ensures c.front-start.ensures.words
    (kept_is _ _ c.requires.1 c.requires.0 _ _ c.front-start.ensures.front c.step-next.ensures _ c.within.ensures ∙ c.if-not-within.false)

pub returns : goal.returns
returns c =
    call_done _ _ c.requires.0 c.requires.1
    (kept_is _ _ c.requires.1 c.requires.0 _ _ c.front-start.ensures.front c.step-next.ensures _ c.within.ensures ∙ c.if-not-within.false)
    _ _
    (rounds_are _ _ c.requires.1 c.requires.0 _ _ c.front-start.ensures.front c.step-next.ensures _ c.until_still-reached.ensures.rounds)
    (model_is _ _ c.requires.1 c.requires.0 _ _ c.front-start.ensures.front c.step-next.ensures _ _ c.until_still-reached.ensures.set
    c.copy_from_slice.ensures.after)
