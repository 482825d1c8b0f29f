use Rattle.std.specs.Prelude.{◌+◌, None, Some}
use Rattle.std.proofs.Common.{subst}
use Rattle.schedule.specs.Picking.{IsLowestFrom}
use Rattle.schedule.proofs.Lowest.{turn_back, turn_higher}
use Rattle.schedule.proofs.picks.behind.Goals as goal

pub returns-in-Some : goal.returns-in-Some
returns-in-Some c = turn_higher c.args.numbers.now c.args.low c.in-Some.n (subst (λ low. IsLowestFrom c.args.numbers.now (low + 1) (Some c.in-Some.n)) c.from.ensures c.in-Some.ensures)

pub returns-in-None : goal.returns-in-None
returns-in-None c =
    turn_back c.args.numbers.now c.args.low c.lowest.result (subst (λ low. IsLowestFrom c.args.numbers.now (low + 1) None) c.from.ensures c.in-None.ensures) c.lowest.ensures
