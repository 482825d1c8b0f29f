use Rattle.write_plan.proofs.Fits.{first_holes_are_unused, first_run_fits}
use Rattle.write_plan.proofs.shown.first_blocks_of_what_is_shown_are_found.Goals as goal

pub returns : goal.returns
returns c = record { run = first_run_fits c.what_files_hold_is_the_sum.ensures; holes = first_holes_are_unused c.what_files_hold_is_the_sum.ensures }
