use Rattle.write_plan.proofs.Fits.{first_holes_fit}
use Rattle.write_plan.proofs.first_writes.the_first_holes_find_their_blocks.Goals as goal

pub returns : goal.returns
returns c = first_holes_fit c.what_files_hold_is_the_sum.ensures
