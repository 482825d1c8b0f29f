use Rattle.posix_mode_laws.specs.Steps.{staged_fresh}
use Rattle.posix_mode_laws.proofs.staged_blocks_are_not_freed_ones.Goals as goal

pub returns : goal.returns
returns c = staged_fresh
