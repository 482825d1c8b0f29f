use Rattle.std.proofs.Common.{All}
use Rattle.oplog_tail.specs.Logs.{IsSeatOf}
use Rattle.thread_rows.proofs.threads.all_full.Given as goal

abbrev pub invariant-loop-k : goal.invariant-loop-k
invariant-loop-k l = All (λ s. IsSeatOf l.log s) l.seats
