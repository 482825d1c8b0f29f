use Rattle.std.proofs.Common.{◌≡◌, drop}
use Rattle.crash_spec.specs.posix_spec.Run.{run}
use Rattle.crash_judge.proofs.judge_bytes.runs.run_on.Given as goal

abbrev pub invariant-loop-item : goal.invariant-loop-item
invariant-loop-item l = run l.state (drop l.item-index l.history) ≡ run l.initial.state l.history
