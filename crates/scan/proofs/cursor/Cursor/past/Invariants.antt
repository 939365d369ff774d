-- `scan::cursor::Cursor::past` meets its contract. The loop's invariant: from here on it ends where it ends from the start.
-- Assumes nothing.
use mathlib.Core.Path.{◌≡◌}
use mathlib.Core.Bool.{Bool}
use Prim.Native.Nat.{ℕ}
use Rattle.scan.specs.Places.{past_at}
use Rattle.scan.proofs.cursor.Cursor.past.Given as goal

abbrev pub invariant-loop-at : goal.invariant-loop-at
invariant-loop-at g l =
    (p : ℕ → Bool) → ((b : ℕ) (r : Bool) → goal.F-post g l.stays b r → r ≡ p b) → past_at p l.text l.at ≡ past_at p l.text l.self.at
