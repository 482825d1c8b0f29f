use Rattle.world_step_laws.specs.Ages.{dead-made}
use Rattle.world_step_laws.proofs.steps.dead_files_stay_dead.Goals as goal

pub returns : goal.returns
returns c = dead-made
