use Rattle.split_cases.proofs.Draws.{drawn_more}
use Rattle.split_cases.proofs.load.drawn_calls.Goals as goal

pub loop-i-preserved : goal.loop-i-preserved
loop-i-preserved c = drawn_more _ _ _ _ _ _ _ _ _ c.loop-i.invariant c.next_draw-r.ensures.drawn c.next_draw-r.ensures.after c.in_ok-load_call.ensures c.in_ok-push.ensures.items
