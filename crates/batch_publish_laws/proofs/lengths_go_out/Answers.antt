use Rattle.batch_publish_laws.specs.LengthsLaws.{lengths_go_out, lengths_loss_is_kept}
use Rattle.batch_publish_laws.proofs.lengths_go_out.Goals as goal

pub returns : goal.returns
returns c = record { out = lengths_go_out; lost = lengths_loss_is_kept }
