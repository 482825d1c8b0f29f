use Rattle.batch_laws.specs.GoingsLaws.{going_goes_on}
use Rattle.batch_laws.proofs.the_device_goes_on.Goals as goal

pub returns : goal.returns
returns c = going_goes_on
