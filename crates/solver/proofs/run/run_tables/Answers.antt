use mathlib.Core.Path.{◌≡◌, refl}
use Rattle.std.specs.Prelude.{Err}
use borrow.Author.Rules.{rules}
use Rattle.solver.proofs.Running.{ready_with, run_over, fold_ready, run_ready, run_kept, run_done}
use Rattle.solver.specs.Run.{RunReady}
use Rattle.solver.proofs.run.run_tables.Goals.{After-in_order}
use Rattle.solver.proofs.run.run_tables.Goals as goal

-- tables in order, and areas that are long enough
ready : (c : After-in_order) → RunReady c.args.rules.now.tables c.args.rules.now.counts c.args.folds
    (record { all = c.args.all.now; any = c.args.any.now; spare = c.args.spare.now; model = c.args.model.now })
ready c = ready_with c.in_order.ensures c.requires.ready

pub standardise_formed-requires : goal.standardise_formed-requires
standardise_formed-requires c = record { long = c.requires.ready.long; clear = λ f. ((c.requires.clear f).0, (c.requires.clear f).1) }

pub returns-in_err-made : goal.returns-in_err-made
returns-in_err-made c =
    let r : c.from_residual.result ≡ Err c.in_err-made.field-0.0 = search rules in
    rw r (run_over (ready (goal.at.returns-in_err-made c).After-in_order) c.in_err-made.ensures c.in_err-made.field-0.0 refl)

pub fold_formed-requires : goal.fold_formed-requires
fold_formed-requires c =
    let r = fold_ready (ready (goal.at.fold_formed-requires c).After-in_order) c.in_ok-made.ensures refl in
    (r.0, r.1, r.2, r.3, r.4, λ f. (c.requires.clear f).2)

pub run_formed-requires : goal.run_formed-requires
run_formed-requires c =
    run_ready (ready (goal.at.run_formed-requires c).After-in_order) c.in_ok-made.ensures refl c.fold_formed.ensures.all c.fold_formed.ensures.spare

pub returns-in_err-rounds : goal.returns-in_err-rounds
returns-in_err-rounds c =
    absurd
    (run_kept (ready (goal.at.returns-in_err-rounds c).After-in_order) c.in_ok-made.ensures refl c.fold_formed.ensures.all c.fold_formed.ensures.spare
    c.in_err-rounds.field-0.0 c.in_err-rounds.ensures)

pub returns : goal.returns
returns c =
    run_done (ready (goal.at.returns c).After-in_order) c.in_ok-made.ensures refl c.fold_formed.ensures.all c.fold_formed.ensures.spare
    c.in_ok-rounds.ensures
