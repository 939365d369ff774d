-- The theorems on the calls, each one claim of specs/Claims.antt.
-- Assumes nothing.
use Rattle.systems.specs.Claims.{Calls}
use Rattle.systems.proofs.Folds as Folds
use Rattle.systems.proofs.Running as Running
use Rattle.systems.proofs.Standard as Standard
use Rattle.systems.proofs.Stages as Stages
use Rattle.systems.proofs.Sizes as Sizes

pub calls : Calls
calls = record {
  standardises = Standard.standardises;
  folds_rows = Folds.folds_rows;
  runs = Running.runs;
  stages = Stages.stages;
  stated_sizes = Sizes.stated_sizes;
}
