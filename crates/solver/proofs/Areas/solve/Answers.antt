use mathlib.Core.Path.{refl}
use Rattle.solver.specs.Lent.{lent}
use Rattle.solver.proofs.Calls.{Ranged, handed, end_refused, call_early, ranged, call_refused, rules_ready, rows_ready, call_over}
use Rattle.solver.proofs.Calls.{names_long, model_long, listing_ready, call_done, end_done}
use Rattle.solver.proofs.Areas.solve.Goals.{In_ok-judge}
use Rattle.solver.proofs.Areas.solve.Goals as goal

-- what is judged first is in range
in_range : (c : In_ok-judge) → Ranged c.args.folding.now c.args.text.now c.args.folds (lent c.args.self)
in_range c = ranged c.args.folding.now c.passes.ensures c.args.text.now c.args.folds (lent c.args.self) refl c.in_ok-judge.ensures refl

pub returns-in_err-judge : goal.returns-in_err-judge
returns-in_err-judge c =
    let x = handed _ c.from_residual.ensures in
    record {
      solved = call_early c.args.folding.now c.passes.ensures c.args.text.now c.args.folds (lent c.args.self) refl c.in_err-judge.ensures x refl;
      end = end_refused x _ _;
    }

pub read_formed-requires : goal.read_formed-requires
read_formed-requires c =
    let range = in_range (goal.at.read_formed-requires c).In_ok-judge in
    record {
      name_area_in_bounds = (range.long.spellings, range.long.heads, range.long.bodies);
      text_len_bound = range.text;
    }

pub returns-in_err-counts : goal.returns-in_err-counts
returns-in_err-counts c =
    let x = handed _ c.from_residual-in_err-counts.ensures in
    record {
      solved = call_refused (in_range (goal.at.returns-in_err-counts c).In_ok-judge) c.in_err-counts.ensures x refl refl;
      end = end_refused x _ _;
    }

pub of-rules-requires : goal.of-rules-requires
of-rules-requires c = rules_ready (in_range (goal.at.of-rules-requires c).In_ok-judge) c.in_ok-counts.ensures refl

pub run_tables-requires : goal.run_tables-requires
run_tables-requires c =
    record { ready = rows_ready (in_range (goal.at.run_tables-requires c).In_ok-judge) c.in_ok-counts.ensures refl; clear = c.requires }

pub returns-in_err-run : goal.returns-in_err-run
returns-in_err-run c =
    let x = handed _ c.from_residual-in_err-run.ensures in
    record {
      solved = call_over (in_range (goal.at.returns-in_err-run c).In_ok-judge) c.in_ok-counts.ensures refl c.of-rules.ensures c.in_err-run.ensures x refl;
      end = end_refused x _ _;
    }

pub of-requires : goal.of-requires
of-requires c =
    names_long (in_range (goal.at.of-requires c).In_ok-judge) c.in_ok-counts.ensures refl c.of-rules.ensures c.in_ok-run.ensures refl

pub invariant_of-book : goal.invariant_of-book
invariant_of-book c =
    record {
      long = model_long (in_range (goal.at.invariant_of-book c).In_ok-judge) c.in_ok-counts.ensures refl c.of-rules.ensures c.in_ok-run.ensures refl;
    }

pub write-listed-requires : goal.write-listed-requires
write-listed-requires c =
    listing_ready (in_range (goal.at.write-listed-requires c).In_ok-judge) c.in_ok-counts.ensures refl c.of-rules.ensures c.in_ok-run.ensures refl

pub returns : goal.returns
returns c =
    let range = in_range (goal.at.returns c).In_ok-judge in
    record {
      solved = call_done range c.in_ok-counts.ensures refl c.of-rules.ensures c.in_ok-run.ensures refl c.of.ensures c.write-listed.ensures;
      end = end_done range c.in_ok-counts.ensures refl c.of-rules.ensures c.in_ok-run.ensures refl c.of.ensures c.write-listed.ensures;
    }
