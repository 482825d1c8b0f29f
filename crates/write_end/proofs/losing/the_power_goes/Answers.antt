use Rattle.write_end.proofs.Going.{found_at_call, found_lost, loses_call, lost_alike}
use Rattle.write_end.proofs.losing.the_power_goes.Goals as goal

pub returns-clause-call : goal.returns-clause-call
returns-clause-call c = loses_call

pub returns-clause-found : goal.returns-clause-found
returns-clause-found c = found_lost

pub returns-clause-at_call : goal.returns-clause-at_call
returns-clause-at_call c = found_at_call

pub returns-clause-alike : goal.returns-clause-alike
returns-clause-alike c = lost_alike
