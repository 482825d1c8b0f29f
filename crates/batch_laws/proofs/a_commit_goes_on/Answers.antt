use Rattle.batch_laws.specs.CommitsLaws.{commit_goes_on, commit_keeps_log}
use Rattle.batch_laws.proofs.a_commit_goes_on.Goals as goal

pub returns : goal.returns
returns c = record { goes_on = commit_goes_on; log = commit_keeps_log }
