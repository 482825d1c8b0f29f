use Rattle.world_write_laws.specs.RunSteps.{relinked}
use Rattle.world_write_laws.proofs.runs.runs_are_carried_out.Goals as goal

pub returns : goal.returns
returns c = relinked
