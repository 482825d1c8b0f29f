use Rattle.batch_write_laws.specs.MapsLaws.{fill_goes_on, restage_goes_on}
use Rattle.batch_write_laws.proofs.maps_of_the_batch_change.Goals as goal

pub returns : goal.returns
returns c = record { restaged = restage_goes_on; filled = fill_goes_on }
