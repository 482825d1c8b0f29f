use Rattle.world_view_laws.proofs.Losing.{both_are_home}
use Rattle.world_view_laws.proofs.turns.jobs_that_ended_stay_home.Goals as goal

pub returns : goal.returns
returns c = both_are_home
