use Rattle.world_model.specs.Promise.{may_be_lost, may_be_lost_in_sync}
use Rattle.world_model.proofs.promise.a_lost_call_may_stand_last.Goals as goal

pub returns-clause-strict : goal.returns-clause-strict
returns-clause-strict c = may_be_lost

pub returns-clause-sync : goal.returns-clause-sync
returns-clause-sync c = may_be_lost_in_sync
