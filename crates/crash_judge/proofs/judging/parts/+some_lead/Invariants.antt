use Rattle.std.proofs.Common.{length}
use Rattle.crash_judge.proofs.judging.parts.+some_lead.Given as goal

abbrev pub decreases-some_lead : goal.decreases-some_lead
decreases-some_lead l = length l.unfinished.now
