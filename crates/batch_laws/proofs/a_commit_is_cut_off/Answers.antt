use Rattle.batch_laws.specs.CommitsLaws.{commit_keeps_promise}
use Rattle.batch_laws.proofs.a_commit_is_cut_off.Goals as goal

pub returns : goal.returns
returns c = commit_keeps_promise
