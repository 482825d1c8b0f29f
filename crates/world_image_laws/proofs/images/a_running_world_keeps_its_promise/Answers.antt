use Rattle.world_image_laws.specs.Kept.{kept_more, kept_strict, kept_sync}
use Rattle.world_image_laws.specs.Running.{promise_now}
use Rattle.world_image_laws.proofs.images.a_running_world_keeps_its_promise.Goals as goal

pub returns-clause-running : goal.returns-clause-running
returns-clause-running c = promise_now

pub returns-clause-strict : goal.returns-clause-strict
returns-clause-strict c = kept_strict

pub returns-clause-sync : goal.returns-clause-sync
returns-clause-sync c = kept_sync

pub returns-clause-lost : goal.returns-clause-lost
returns-clause-lost c = kept_more
