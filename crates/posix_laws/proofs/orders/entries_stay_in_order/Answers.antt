use Rattle.posix_laws.specs.Orders.{AreOrdered-step_of}
use Rattle.posix_laws.specs.Starts.{start-rising}
use Rattle.posix_laws.proofs.orders.entries_stay_in_order.Goals as goal

pub returns-clause-start : goal.returns-clause-start
returns-clause-start c = start-rising

pub returns-clause-call : goal.returns-clause-call
returns-clause-call c = AreOrdered-step_of
