use Rattle.std.proofs.Common.{◌≡◌}
use Rattle.thread_rows.proofs.threads.append_all.Given as goal

abbrev pub invariant-loop-append : goal.invariant-loop-append
invariant-loop-append l = l.seat.log ≡ l.initial.seat.log
