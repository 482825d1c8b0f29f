use Rattle.live_step_laws.proofs.Cleared.{left_cleared}
use Rattle.live_step_laws.proofs.Standing.{stands_on, stands_still}
use Rattle.live_step_laws.proofs.steps.a_step_leaves_the_world_standing.Goals as goal

pub returns-clause-on : goal.returns-clause-on
returns-clause-on c = stands_on

pub returns-clause-still : goal.returns-clause-still
returns-clause-still c = stands_still

pub returns-clause-cleared : goal.returns-clause-cleared
returns-clause-cleared c = left_cleared
