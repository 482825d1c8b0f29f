use Rattle.live_step_laws.proofs.Reserved.{keeps_reserved, stands_reserved}
use Rattle.live_step_laws.proofs.reserves.a_run_is_reserved_in_flight.Goals as goal

pub returns-clause-done : goal.returns-clause-done
returns-clause-done c = stands_reserved

pub returns-clause-cut : goal.returns-clause-cut
returns-clause-cut c = keeps_reserved
