use Rattle.world_write_laws.specs.StagingSteps.{restaged}
use Rattle.world_write_laws.proofs.runs.staging_files_change.Goals as goal

pub returns : goal.returns
returns c = restaged
