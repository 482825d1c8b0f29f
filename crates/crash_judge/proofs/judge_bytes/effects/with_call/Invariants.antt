use Rattle.std.proofs.Common.{◌≡◌, take}
use Rattle.crash_judge.proofs.judge_bytes.effects.with_call.Given as goal

abbrev pub invariant-loop-call : goal.invariant-loop-call
invariant-loop-call l = l.all.items ≡ take l.call-index l.calls
