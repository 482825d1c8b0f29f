use Rattle.std.proofs.Common.{◌≡◌, length}
use Rattle.thread_rows.proofs.Taking.{IsTaking}
use Rattle.thread_rows.proofs.lines.first_lines.Given as goal

abbrev pub invariant-loop-number : goal.invariant-loop-number
invariant-loop-number l = record { taking : IsTaking l.number l.pm l.lines.items; size : length l.pm ≡ length l.fn.pm }
