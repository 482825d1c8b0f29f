use Rattle.batch_write_laws.specs.InPlaceLaws.{in_place_goes_on}
use Rattle.batch_write_laws.specs.PartsLaws.{parts_go_on}
use Rattle.batch_write_laws.specs.RunLaws.{staged_goes_on}
use Rattle.batch_write_laws.proofs.writes_go_on.Goals as goal

pub returns : goal.returns
returns c = record { in_place = in_place_goes_on; staged = staged_goes_on; parts = parts_go_on }
