use Rattle.batch_laws.specs.StandsOnLaws.{files_stand_on}
use Rattle.batch_laws.proofs.what_stands_goes_on.Goals as goal

pub returns : goal.returns
returns c = files_stand_on
