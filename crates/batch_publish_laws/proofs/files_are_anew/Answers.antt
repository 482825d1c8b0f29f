use Rattle.batch_publish_laws.specs.RenewalsLaws.{renewal_leaves_batch}
use Rattle.batch_publish_laws.proofs.files_are_anew.Goals as goal

pub returns : goal.returns
returns c = renewal_leaves_batch
