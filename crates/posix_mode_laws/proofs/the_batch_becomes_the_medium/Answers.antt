use Rattle.posix_mode_laws.specs.Steps.{batch_commits}
use Rattle.posix_mode_laws.proofs.the_batch_becomes_the_medium.Goals as goal

pub returns : goal.returns
returns c = batch_commits
