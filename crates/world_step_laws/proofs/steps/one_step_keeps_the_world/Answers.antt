use Rattle.world_step_laws.specs.Steps.{GoOn-call, live_claims-left}
use Rattle.world_step_laws.specs.Worlds.{IsWorld-left}
use Rattle.world_step_laws.proofs.steps.one_step_keeps_the_world.Goals as goal

pub returns-clause-step : goal.returns-clause-step
returns-clause-step c = IsWorld-left

pub returns-clause-live : goal.returns-clause-live
returns-clause-live c = live_claims-left

pub returns-clause-jobs : goal.returns-clause-jobs
returns-clause-jobs c = GoOn-call
