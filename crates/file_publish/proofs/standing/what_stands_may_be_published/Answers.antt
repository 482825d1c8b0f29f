use Rattle.file_publish.proofs.StandingPublishing.{stands_to_publish}
use Rattle.file_publish.proofs.standing.what_stands_may_be_published.Goals as goal

pub returns : goal.returns
returns c = stands_to_publish
