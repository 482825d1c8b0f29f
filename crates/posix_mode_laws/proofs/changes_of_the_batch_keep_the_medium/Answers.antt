use Rattle.posix_mode_laws.specs.BatchSteps.{batch_steps}
use Rattle.posix_mode_laws.proofs.changes_of_the_batch_keep_the_medium.Goals as goal

pub returns : goal.returns
returns c = batch_steps
