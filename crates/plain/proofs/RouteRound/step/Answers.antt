-- `plain::Route::step` meets its contract: the heads join the empty set. Assumes nothing.
use mathlib.Core.Path.{◌∙◌}
use Rattle.plain.proofs.Stepping.{joined_alone}
use Rattle.plain.proofs.RouteRound.step.Goals as goal

pub returns : goal.returns
returns c = c.join.ensures ∙ joined_alone _
