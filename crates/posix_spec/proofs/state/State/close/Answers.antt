use Rattle.std.proofs.Common.{rules}
use Rattle.posix_spec.specs.State.{with_published}
use Rattle.posix_spec.specs.Step.{close_done}
use Rattle.posix_spec.proofs.state.State.close.Goals as goal

pub returns : goal.returns
unfolding close_done with_published
returns c = search rules
