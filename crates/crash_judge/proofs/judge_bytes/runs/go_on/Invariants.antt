use Rattle.std.proofs.Common.{◌≡◌, drop}
use Rattle.crash_spec.specs.posix_spec.Run.{after_calls}
use Rattle.crash_judge.proofs.judge_bytes.runs.go_on.Given as goal

abbrev pub invariant-loop-c : goal.invariant-loop-c
invariant-loop-c l = after_calls l.at (drop l.c-index l.calls) ≡ after_calls l.initial.at l.calls
