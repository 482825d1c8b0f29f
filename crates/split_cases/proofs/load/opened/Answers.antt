use Rattle.split_cases.specs.Load.{load_open}
use Rattle.split_cases.proofs.Draws.{one_more}
use Rattle.split_cases.proofs.load.opened.Goals as goal

pub loop-t-preserved : goal.loop-t-preserved
loop-t-preserved c = one_more load_open _ _ _ _ c.loop-t.invariant c.in_ok-load_open.ensures c.in_ok-push.ensures.items
