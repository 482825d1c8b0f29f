use Rattle.std.proofs.Common.{length}
use Rattle.crash_judge.proofs.judging.posix.+is_kept_from.Given as goal

abbrev pub decreases-is_kept_from : goal.decreases-is_kept_from
decreases-is_kept_from l = length l.later.now
