use Rattle.std.proofs.Common.{rules, sym, ◌∙◌}
use Rattle.split_cases.proofs.Draws.{listed_more}
use Rattle.split_cases.proofs.load.drawn_threads.Goals as goal

pub loop-t-preserved : goal.loop-t-preserved
loop-t-preserved c = listed_more _ _ _ _ _ _ _ _ c.loop-t.invariant c.in_ok-drawn_calls.ensures c.in_ok-push.ensures.items

pub loop-t-init : goal.loop-t-init
loop-t-init c = search rules
