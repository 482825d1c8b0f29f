use Rattle.batch_laws.specs.LossesLaws.{begin_goes_on, begin_keeps_log, change_keeps_log}
use Rattle.batch_laws.proofs.a_call_begins.Goals as goal

pub returns : goal.returns
returns c = record { begun = begin_goes_on; log = begin_keeps_log; gathered = change_keeps_log }
