use Rattle.std.proofs.Common.{subst, sym, take}
use Rattle.std.proofs.lemmas.List.{take_all, take_more}
use Rattle.schedule.specs.Picking.{IsLowestFrom}
use Rattle.schedule.proofs.Lowest.{lowest_none}
use Rattle.schedule.proofs.picks.lowest_from.Goals as goal

pub loop-n-init : goal.loop-n-init
loop-n-init c = lowest_none c.args.from

pub loop-n-preserved : goal.loop-n-preserved
loop-n-preserved c =
    subst (λ xs. IsLowestFrom xs c.args.from c.lower_of-found.result) (sym (take_more c.args.numbers.now c.loop-n.n-index 0 c.loop-n-test.true))
    (c.lower_of-found.ensures (take c.loop-n.n-index c.args.numbers.now) c.loop-n.invariant)

pub returns : goal.returns
returns c = subst (λ xs. IsLowestFrom xs c.args.from c.loop-n.found) (take_all c.loop-n.n-index c.args.numbers.now c.loop-n-test.false) c.loop-n.invariant
