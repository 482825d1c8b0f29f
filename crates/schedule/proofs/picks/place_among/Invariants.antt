use Rattle.crash_spec.specs.Orders.{ArePassedOver}
use Rattle.schedule.proofs.picks.place_among.Given as goal

-- those so far are passed over
abbrev pub invariant-loop-k : goal.invariant-loop-k
invariant-loop-k l = ArePassedOver l.list l.numbers l.from l.k
