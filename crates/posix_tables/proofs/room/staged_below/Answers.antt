use Rattle.std.proofs.Common.{refl}
use Rattle.posix_tables.proofs.room.staged_below.Goals as goal

pub returns-in-Sync-clause-value : goal.returns-in-Sync-clause-value
returns-in-Sync-clause-value c = rw c.in-Sync.is refl
