use Rattle.batch_publish_laws.specs.LapsLaws.{lap_goes_on, lap_loss_is_kept}
use Rattle.batch_publish_laws.proofs.laps_begin.Goals as goal

pub returns : goal.returns
returns c = record { begun = lap_goes_on; lost = lap_loss_is_kept }
