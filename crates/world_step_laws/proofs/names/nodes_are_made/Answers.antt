use Rattle.world_step_laws.specs.MadeCalls.{IsWorld-created, IsWorld-mkdir}
use Rattle.world_step_laws.proofs.names.nodes_are_made.Goals as goal

pub returns-clause-mkdir : goal.returns-clause-mkdir
returns-clause-mkdir c = IsWorld-mkdir

pub returns-clause-created : goal.returns-clause-created
returns-clause-created c = IsWorld-created
