use Rattle.std.proofs.Common.{subst, sym}
use Rattle.crash_spec.specs.Orders.{IsInTurn}
use Rattle.schedule.proofs.Lowest.{turn_first}
use Rattle.schedule.proofs.picks.in_turn.Goals as goal

pub returns-in-None : goal.returns-in-None
returns-in-None c = subst (λ last. IsInTurn c.args.numbers.now last c.lowest.result) (sym c.in-None.is) (turn_first c.args.numbers.now c.lowest.result c.lowest.ensures)
