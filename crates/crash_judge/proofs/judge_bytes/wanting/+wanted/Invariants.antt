use Rattle.std.proofs.Common.{length}
use Rattle.crash_judge.proofs.judge_bytes.wanting.+wanted.Given as goal

abbrev pub decreases-wanted : goal.decreases-wanted
decreases-wanted l = length l.numbers.now
