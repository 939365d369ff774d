-- `plain::Route::join` meets its contract. The loop's invariant: of the rules passed, the heads whose body lies in v have joined. Assumes nothing.
use mathlib.Core.Path.{◌≡◌}
use Rattle.words.specs.Row.{row}
use Rattle.plain.proofs.Stepping.{joined}
use Rattle.plain.proofs.Route.join.Given as goal

abbrev pub invariant-loop-j : goal.invariant-loop-j
invariant-loop-j l = l.next ≡ joined l.self.rules.tables (row l.v) l.initial.next l.j
