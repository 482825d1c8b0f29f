use Rattle.batch_laws.specs.BeginningsLaws.{ready_begins}
use Rattle.batch_laws.proofs.the_device_begins.Goals as goal

pub returns : goal.returns
returns c = ready_begins
