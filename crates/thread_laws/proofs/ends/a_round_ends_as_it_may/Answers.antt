use Rattle.thread_laws.proofs.Crashing.{closed_may_crash}
use Rattle.thread_laws.proofs.Ending.{closed_is_quiet, closed_may_checkpoint, closed_may_unmount, still_is_returned, worked_is_returned}
use Rattle.thread_laws.proofs.ends.a_round_ends_as_it_may.Goals as goal

pub returns-clause-quiet : goal.returns-clause-quiet
returns-clause-quiet c = closed_is_quiet

pub returns-clause-checkpoint : goal.returns-clause-checkpoint
returns-clause-checkpoint c = closed_may_checkpoint

pub returns-clause-unmount : goal.returns-clause-unmount
returns-clause-unmount c = closed_may_unmount

pub returns-clause-crash : goal.returns-clause-crash
returns-clause-crash c = closed_may_crash

pub returns-clause-worked : goal.returns-clause-worked
returns-clause-worked c = worked_is_returned

pub returns-clause-still : goal.returns-clause-still
returns-clause-still c = still_is_returned
