use Rattle.posix_mode_laws.specs.Beginning.{begins_in_posix_mode}
use Rattle.posix_mode_laws.proofs.posix_mode_begins.Goals as goal

pub returns : goal.returns
returns c = begins_in_posix_mode
