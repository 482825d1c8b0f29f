use Rattle.world_begins.proofs.Settled.{ends_with_one_pair, jobs_have_room, returns_have_room, strict_ends_leave_all, waits_alone}
use Rattle.world_begins.proofs.progress.the_end_of_a_round_is_settled.Goals as goal

pub returns-clause-returns : goal.returns-clause-returns
returns-clause-returns c = returns_have_room

pub returns-clause-jobs : goal.returns-clause-jobs
returns-clause-jobs c = jobs_have_room

pub returns-clause-numbers : goal.returns-clause-numbers
returns-clause-numbers c = ends_with_one_pair

pub returns-clause-waits : goal.returns-clause-waits
returns-clause-waits c = waits_alone

pub returns-clause-still : goal.returns-clause-still
returns-clause-still c = strict_ends_leave_all
