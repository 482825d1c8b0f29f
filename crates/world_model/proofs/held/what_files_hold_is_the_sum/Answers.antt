use Rattle.world_model.proofs.Sums.{held_is_the_sum}
use Rattle.world_model.proofs.held.what_files_hold_is_the_sum.Goals as goal

pub returns : goal.returns
returns c = held_is_the_sum
