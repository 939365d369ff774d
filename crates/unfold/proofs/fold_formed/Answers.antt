-- `unfold::fold_formed` meets its contract. Assumes nothing.
use mathlib.Core.Path.{refl, sym, ap, ◌∙◌}
use Prim.Native.Nat.{ℕ, ◌*◌}
use native.Mathlib.Omega.{arith}
use Rattle.limits.specs.Book.{row_words, row_area}
use Rattle.areas.specs.Area.{cleared}
use Rattle.unfold.proofs.Turns.{spare_zero, spare_clear}
use Rattle.unfold.proofs.fold_formed.Goals as goal

pub clear_stale-requires : goal.clear_stale-requires
clear_stale-requires c =
    let old = c.args.spare.now in
    let e = c.row_at.ensures in (
      omega (arith, e, c.requires.0),
      omega arith,
      λ f.
          spare_clear row_area (c.args.count * row_words) _ old old _ e (omega (arith, c.requires.0)) refl
          (c.fold_turns.ensures.spare ∙ ap (λ (n : ℕ). cleared 0 n old) (sym e)) (c.requires.5 f),
    )

pub returns-clause-spare : goal.returns-clause-spare
returns-clause-spare c =
    let old = c.args.spare.now in
    let e = c.row_at.ensures in
    spare_zero row_area (c.args.count * row_words) _ old old _ e (omega (arith, c.requires.0)) refl
    (c.fold_turns.ensures.spare ∙ ap (λ (n : ℕ). cleared 0 n old) (sym e)) _ c.clear_stale.ensures
