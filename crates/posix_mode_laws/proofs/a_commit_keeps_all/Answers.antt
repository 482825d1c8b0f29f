use Rattle.posix_mode_laws.specs.Steps.{committed, committed_strongly}
use Rattle.posix_mode_laws.proofs.a_commit_keeps_all.Goals as goal

pub returns : goal.returns
returns c = record { commits = committed; strongly = committed_strongly }
