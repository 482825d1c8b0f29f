use Rattle.batch_publish_laws.specs.ClosingsLaws.{close_publishes, fsync_publishes, publishing_leaves_batch}
use Rattle.batch_publish_laws.specs.SyncsLaws.{sync_loss_is_kept}
use Rattle.batch_publish_laws.proofs.calls_publish_lengths.Goals as goal

pub returns : goal.returns
returns c = record { gathered = publishing_leaves_batch; closed = close_publishes; synced = fsync_publishes; lost = sync_loss_is_kept }
