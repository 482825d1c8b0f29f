use Rattle.crash_spec.proofs.BusyRows.{what_is_logged, who_waits}
use Rattle.crash_spec.proofs.calls_wait_for_a_busy_file.Goals as goal

pub returns-clause-waits : goal.returns-clause-waits
returns-clause-waits c = who_waits

pub returns-clause-logged : goal.returns-clause-logged
returns-clause-logged c = what_is_logged
