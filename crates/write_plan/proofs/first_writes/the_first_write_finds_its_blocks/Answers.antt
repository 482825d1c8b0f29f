use Rattle.write_plan.proofs.Fits.{first_write_fits}
use Rattle.write_plan.proofs.first_writes.the_first_write_finds_its_blocks.Goals as goal

pub returns : goal.returns
returns c = first_write_fits c.what_files_hold_is_the_sum.ensures
