use Rattle.batch_publish_laws.specs.JoinsLaws.{join_goes_on, join_loss_is_kept}
use Rattle.batch_publish_laws.proofs.changes_of_maps_join.Goals as goal

pub returns : goal.returns
returns c = record { joined = join_goes_on; lost = join_loss_is_kept }
