use Rattle.batch_publish_laws.specs.ChangesLaws.{batch_goes_on, change_leaves_batch}
use Rattle.batch_publish_laws.specs.CommittedLaws.{batch_is_committed}
use Rattle.batch_publish_laws.proofs.changes_of_maps_gather.Goals as goal

pub returns : goal.returns
returns c = record { gathered = change_leaves_batch; goes_on = batch_goes_on; committed = batch_is_committed }
