use Rattle.posix_mode_laws.specs.Promises.{posix_runs_promised}
use Rattle.posix_mode_laws.proofs.posix_mode_keeps_its_promise.Goals as goal

pub returns : goal.returns
returns c = posix_runs_promised
