-- `copying::copy` meets its contract. The loop's invariant: the bytes passed are put. Assumes nothing.
use mathlib.Core.Path.{◌≡◌}
use lib.ListN.{take}
use Rattle.areas.specs.Area.{put}
use Rattle.copying.proofs.copy.Given as goal

abbrev pub invariant-loop-i : goal.invariant-loop-i
invariant-loop-i l = l.area ≡ put l.at (take l.i l.src) l.initial.area
