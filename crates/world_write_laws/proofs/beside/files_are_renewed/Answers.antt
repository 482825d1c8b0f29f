use Rattle.world_write_laws.specs.RenewSteps.{renewed}
use Rattle.world_write_laws.proofs.beside.files_are_renewed.Goals as goal

pub returns : goal.returns
returns c = renewed
