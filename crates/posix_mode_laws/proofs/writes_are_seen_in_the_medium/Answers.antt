use Rattle.posix_mode_laws.specs.Written.{written_steps}
use Rattle.posix_mode_laws.proofs.writes_are_seen_in_the_medium.Goals as goal

pub returns : goal.returns
returns c = written_steps
