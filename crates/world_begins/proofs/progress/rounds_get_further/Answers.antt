use Rattle.world_begins.proofs.Going as going
use Rattle.world_begins.proofs.progress.rounds_get_further.Goals as goal

pub returns : goal.returns
returns c = going.rounds_get_further
