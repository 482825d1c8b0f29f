use Rattle.world_model.specs.Promise.{strict_promise}
use Rattle.world_model.proofs.promise.strict_mode_keeps_its_promise.Goals as goal

pub returns : goal.returns
returns c = strict_promise
