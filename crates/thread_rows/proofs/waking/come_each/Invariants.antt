use Rattle.std.proofs.Common.{◌≡◌}
use Rattle.thread_rows.proofs.waking.come_each.Given as goal

-- the pass is as it was
abbrev pub invariant-loop-round : goal.invariant-loop-round
invariant-loop-round g l = l.pass ≡ l.initial.pass
