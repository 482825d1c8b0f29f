use Rattle.batch_laws.specs.ChangesLaws.{change_goes_on}
use Rattle.batch_laws.proofs.a_change_of_names_goes_on.Goals as goal

pub returns : goal.returns
returns c = change_goes_on
