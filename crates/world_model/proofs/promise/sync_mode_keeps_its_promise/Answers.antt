use Rattle.world_model.specs.Promise.{sync_promise}
use Rattle.world_model.proofs.promise.sync_mode_keeps_its_promise.Goals as goal

pub returns : goal.returns
returns c = sync_promise
