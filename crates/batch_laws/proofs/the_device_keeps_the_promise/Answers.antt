use Rattle.batch_laws.specs.PromiseLaws.{going_is_promised, going_runs}
use Rattle.batch_laws.proofs.the_device_keeps_the_promise.Goals as goal

pub returns : goal.returns
returns c = record { runs = going_runs; promised = going_is_promised }
