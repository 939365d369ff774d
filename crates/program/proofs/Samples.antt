-- The sample programs answer as document 01 says: one computed result.
-- Assumes nothing.
use mathlib.Core.Path.{◌≡◌, refl}
use mathlib.Core.Bool.{true}
use Rattle.sets.specs.Set.{pick, every, exists, count, within, meets, same, image}
use Rattle.sets.specs.Steps.{after, rounds_in, rounds, reached}
use Rattle.program.specs.Program.{consequence, plain_held}
use Rattle.program.specs.System.{any_head, all_step, round, unfold_once, rows_after, rounds_of, held_by, c, h}
use Rattle.program.specs.Standard.{ways, several, helper, home, has_body, counted_atoms, all_row, any_row, start_set}
use Rattle.program.specs.Samples.{set_of, up_to, run_agrees, runs_agree, agrees, all_agree}
use Rattle.program.specs.Table.{samples, folded_rows}

pub samples_agree : all_agree samples ≡ true
unfolding pick every exists count within meets same image after rounds_in rounds reached consequence plain_held any_head all_step round unfold_once rows_after rounds_of held_by c h ways several helper home has_body counted_atoms all_row any_row start_set set_of up_to run_agrees runs_agree agrees all_agree
samples_agree = refl

pub folded_rows_lem : folded_rows ≡ true
unfolding pick every exists count within meets same image any_head unfold_once rows_after ways several helper home has_body counted_atoms all_row set_of folded_rows
folded_rows_lem = refl
