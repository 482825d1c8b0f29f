use Rattle.std.proofs.Common.{length}
use Rattle.crash_judge.proofs.judging.strict.+is_strict.Given as goal

abbrev pub decreases-is_strict : goal.decreases-is_strict
decreases-is_strict l = length l.unfinished.now
