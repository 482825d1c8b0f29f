use Rattle.batch_laws.specs.GoneLaws.{rmdir_goes_on, unlink_goes_on}
use Rattle.batch_laws.proofs.names_go.Goals as goal

pub returns : goal.returns
returns c = record { rmdir = rmdir_goes_on; unlink = unlink_goes_on }
