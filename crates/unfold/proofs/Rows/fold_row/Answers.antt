use mathlib.Core.Path.{sym, ap, ◌∙◌}
use mathlib.Core.List.{List}
use Prim.Native.Nat.{ℕ}
use native.Mathlib.Omega.{arith}
use lib.ListN.{get_or}
use Rattle.limits.specs.Book.{row_words}
use Rattle.sets.specs.Set.{union}
use Rattle.words.specs.Row.{row, pack}
use Rattle.unfold.proofs.Uniting.{named, folded_on}
use Rattle.unfold.proofs.Rows.fold_row.Goals as goal

pub loop-k-preserved : goal.loop-k-preserved
loop-k-preserved c =
    let from = c.args.self.now in
    let ws = c.nth-word-items.result.now in
    let k = c.loop-k.k in
    c.fold_word.ensures
    ∙ ap (λ (ys : List ℕ). pack row_words (union (row ys) (named row_words from k (get_or ws k 0)))) c.loop-k.invariant
    ∙ sym (folded_on row_words from c.args.i k ws (cc) (omega (arith, c.nth-word-items.ensures.long)))
