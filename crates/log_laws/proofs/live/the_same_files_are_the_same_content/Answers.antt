use Rattle.log_laws.proofs.FoundLaws.{same-found}
use Rattle.log_laws.proofs.live.the_same_files_are_the_same_content.Goals as goal

pub returns : goal.returns
returns c = same-found
