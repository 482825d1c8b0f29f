use Rattle.batch_publish_laws.specs.MovesLaws.{publish_leaves_batch, relink_goes_on, relink_keeps_staged}
use Rattle.batch_publish_laws.specs.RoomsLaws.{landing_takes_few}
use Rattle.batch_publish_laws.proofs.runs_are_relinked.Goals as goal

pub returns : goal.returns
returns c = record { takes = landing_takes_few; kept = relink_goes_on; published = publish_leaves_batch; staged = relink_keeps_staged }
