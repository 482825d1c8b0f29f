use Rattle.batch_laws.specs.IdleLaws.{close_goes_on, look_goes_on, open_goes_on, refusal_goes_on, still_goes_on}
use Rattle.batch_laws.proofs.other_calls_leave_all.Goals as goal

pub returns : goal.returns
returns c = record { still = still_goes_on; looked = look_goes_on; opened = open_goes_on; closed = close_goes_on; refused = refusal_goes_on }
