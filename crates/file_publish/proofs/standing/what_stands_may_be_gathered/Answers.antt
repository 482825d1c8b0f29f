use Rattle.file_publish.proofs.StandingGathering.{stands_to_gather}
use Rattle.file_publish.proofs.standing.what_stands_may_be_gathered.Goals as goal

pub returns : goal.returns
returns c = stands_to_gather
