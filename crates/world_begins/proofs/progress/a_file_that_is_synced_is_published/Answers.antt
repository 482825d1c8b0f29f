use Rattle.world_begins.proofs.Settled.{syncs_publish}
use Rattle.world_begins.proofs.progress.a_file_that_is_synced_is_published.Goals as goal

pub returns : goal.returns
returns c = syncs_publish
