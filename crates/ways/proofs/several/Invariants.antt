-- `ways::several` meets its contract. The loop's invariant: the rows hold the names met in the heads passed, and those met again.
-- Assumes nothing.
use mathlib.Core.Path.{◌≡◌}
use Rattle.limits.specs.Book.{body_words}
use Rattle.words.specs.Row.{pack}
use Rattle.ways.specs.Ways.{met_names, several_names}
use Rattle.ways.proofs.several.Given as goal

abbrev pub invariant-loop-head : goal.invariant-loop-head
invariant-loop-head l =
    (l.once ≡ pack body_words (met_names l.heads l.head-index))
    × (l.twice ≡ pack body_words (several_names l.heads l.head-index))
