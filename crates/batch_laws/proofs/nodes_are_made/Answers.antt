use Rattle.batch_laws.specs.MadeLaws.{creation_goes_on, mkdir_goes_on}
use Rattle.batch_laws.proofs.nodes_are_made.Goals as goal

pub returns : goal.returns
returns c = record { mkdir = mkdir_goes_on; created = creation_goes_on }
