use Rattle.std.proofs.Common.{◌≡◌, map, take}
use Rattle.crash_spec.specs.posix_spec.Run.{begun}
use Rattle.crash_judge.proofs.judge_bytes.effects.calls_of.Given as goal

abbrev pub invariant-loop-item : goal.invariant-loop-item
invariant-loop-item l = l.calls.items ≡ map begun (take l.item-index l.items)
