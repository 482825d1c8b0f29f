use Rattle.live_step_laws.proofs.Holed.{keeps_filled_cut, stands_filled}
use Rattle.live_step_laws.proofs.fills.holes_are_filled_in_flight.Goals as goal

pub returns-clause-done : goal.returns-clause-done
returns-clause-done c = stands_filled

pub returns-clause-cut : goal.returns-clause-cut
returns-clause-cut c = keeps_filled_cut
