use Rattle.batch_laws.specs.DropLaws.{close_drop_goes_on, unlink_drop_goes_on}
use Rattle.batch_laws.proofs.files_go.Goals as goal

pub returns : goal.returns
returns c = record { unlink = unlink_drop_goes_on; close = close_drop_goes_on }
