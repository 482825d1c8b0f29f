use Rattle.batch_laws.specs.LossesLaws.{loss_keeps_promise}
use Rattle.batch_laws.proofs.a_call_loses_its_power.Goals as goal

pub returns : goal.returns
returns c = loss_keeps_promise
