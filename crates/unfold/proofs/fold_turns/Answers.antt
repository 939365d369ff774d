use mathlib.Core.Path.{◌≡◌, refl, ap, ◌∙◌}
use Prim.Native.Nat.{◌*◌}
use native.Mathlib.Omega.{arith}
use lib.ListN.{drop}
use Rattle.limits.specs.Book.{atoms, row_words}
use Rattle.unfold.proofs.Turns.{folds_none, two_folds, one_fold, folds_end, rows_past, spare_zeros}
use Rattle.unfold.proofs.fold_turns.Goals.{then-odd, else-odd}
use Rattle.unfold.proofs.fold_turns.Goals as goal

pub loop-init : goal.loop-init
loop-init c = record {
  folded = folds_none row_words c.args.count c.args.all.now c.type_inv.all (omega (arith, c.requires.0, c.requires.2));
  past = refl;
}

pub loop-preserved : goal.loop-preserved
loop-preserved c = record {
  folded = two_folds row_words atoms c.args.count c.args.all.now c.requires.0 (omega arith) c.requires.4 _ _ _ _ c.loop.invariant.folded
      c.fold.ensures _ _ (omega arith) c.fold-in-loop.ensures;
  past = rows_past row_words _ _ _ c.args.count c.fold.ensures ∙ c.loop.invariant.past;
}

pub returns-clause-all : goal.returns-clause-all
returns-clause-all c =
    elim c.if-odd.branch [
      | then-odd w ↦
          w.all-is
          ∙ folds_end _ c.args.k c.args.count c.args.all.now _
          (one_fold row_words atoms c.args.count c.args.all.now c.requires.0 (omega arith) c.requires.4 _ _ _ _ c.loop.invariant.folded
          w.fold-then-odd.ensures c.args.k _ _ (omega (arith, w.if-odd.true)) c.row_at-used.ensures w.copy_from_slice.ensures.after) refl
      | else-odd w ↦
          w.all-is ∙ folds_end _ c.args.k c.args.count c.args.all.now _ c.loop.invariant.folded (omega (arith, w.if-odd.false))
    ]

pub returns-clause-spare : goal.returns-clause-spare
returns-clause-spare c =
    let v = c.args.count * row_words in
    let past : drop v c.if-odd.spare ≡ drop v c.args.spare.now =
    elim c.if-odd.branch [
      | then-odd w ↦ ap (drop v) w.spare-is ∙ rows_past row_words _ _ _ c.args.count w.fold-then-odd.ensures ∙ c.loop.invariant.past
      | else-odd w ↦ ap (drop v) w.spare-is ∙ c.loop.invariant.past
    ]
    in
    spare_zeros v _ c.args.spare.now c.if-odd.spare _ c.row_at-used.ensures past c.clear.ensures
