use Rattle.commute_laws.specs.Orders.{Commute-two, CommuteAll-call, StrictFrom-last}
use Rattle.commute_laws.proofs.orders.writes_commute.Goals as goal

pub returns-clause-writes : goal.returns-clause-writes
returns-clause-writes c = Commute-two

pub returns-clause-calls : goal.returns-clause-calls
returns-clause-calls c = CommuteAll-call

pub returns-clause-last : goal.returns-clause-last
returns-clause-last c = StrictFrom-last
