-- `unfold::fold_turns` meets its contract. The loop's invariant: the rows are folded twice as often as is counted. Assumes nothing.
use mathlib.Core.Path.{◌≡◌}
use Prim.Native.Nat.{◌*◌}
use lib.ListN.{drop}
use Rattle.limits.specs.Book.{row_words}
use Rattle.unfold.proofs.Turns.{folded_rows}
use Rattle.unfold.proofs.fold_turns.Given as goal

abbrev pub invariant-loop : goal.invariant-loop
invariant-loop l = record {
  folded : l.all ≡ folded_rows row_words (l.counter * 2) l.count l.initial.all;
  past : drop (l.count * row_words) l.spare ≡ drop (l.count * row_words) l.initial.spare;
}
