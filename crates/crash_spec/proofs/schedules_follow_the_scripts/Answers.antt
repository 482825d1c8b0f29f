use Rattle.crash_spec.proofs.MachineLaws.{Begins-idle, Checkpoint-idle, claims_fit, Follows-Scheduled}
use Rattle.crash_spec.proofs.OneThread.{OneThread-Scheduled}
use Rattle.crash_spec.proofs.schedules_follow_the_scripts.Goals as goal

pub returns-clause-follows : goal.returns-clause-follows
returns-clause-follows c = Follows-Scheduled

pub returns-clause-one_thread : goal.returns-clause-one_thread
returns-clause-one_thread c = OneThread-Scheduled

pub returns-clause-claims : goal.returns-clause-claims
returns-clause-claims c = claims_fit

pub returns-clause-busy : goal.returns-clause-busy
returns-clause-busy c = Begins-idle

pub returns-clause-checkpoint : goal.returns-clause-checkpoint
returns-clause-checkpoint c = Checkpoint-idle
