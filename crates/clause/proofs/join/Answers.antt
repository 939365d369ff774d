-- `clause::join` meets its contract. Assumes nothing.
use mathlib.Core.Path.{sym, subst}
use mathlib.Core.List.{[], ◌∷◌}
use Prim.Native.Nat.{ℕ}
use native.Mathlib.Omega.{arith}
use Rattle.std.specs.Prelude.{Option, is_some}
use Rattle.clause.specs.Found.{names_at, Onward}
use Rattle.clause.specs.Held.{held}
use Rattle.clause.proofs.Joining.{joins_low, joins_one, joins_full}
use Rattle.clause.proofs.join.Goals as goal

pub returns-in_err-number-clause-joins : goal.returns-in_err-number-clause-joins
returns-in_err-number-clause-joins c =
    let x = held c.args.lexicon.now in
    let y = held c.meet.new.lexicon in
    subst (λ (o : Option ℕ). Onward (is_some c.args.head) (names_at x) (c.args.name.now.name ∷ []) (is_some o) y c.args.row.now c.args.row.now)
    (sym c.from_residual-in_err-number.ensures)
    (joins_full _ _ _ _ c.requires.in_order _ c.in_ok-head.was _ c.meet.ensures.met c.in_err-number.was y c.args.row.now)

pub insert-requires : goal.insert-requires
insert-requires c =
    let l = joins_low _ _ _ _ c.requires.in_order _ c.in_ok-head.was _ c.meet.ensures.met _ c.in_ok-number.was in omega (arith, l, c.requires.row_len)

pub returns-clause-joins : goal.returns-clause-joins
returns-clause-joins c =
    joins_one _ _ _ _ c.requires.in_order _ c.in_ok-head.was _ c.meet.ensures.met _ c.in_ok-number.was c.args.row.now c.insert.new.words c.insert.ensures
