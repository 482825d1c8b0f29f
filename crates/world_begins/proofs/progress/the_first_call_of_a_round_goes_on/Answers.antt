use Rattle.world_begins.proofs.Going.{begins_at_first, checkpoints_at_first, first_calls_begin, first_calls_go_on, mounts_at_first}
use Rattle.world_begins.proofs.progress.the_first_call_of_a_round_goes_on.Goals as goal

pub returns-clause-mounted : goal.returns-clause-mounted
returns-clause-mounted c = mounts_at_first

pub returns-clause-checkpoint : goal.returns-clause-checkpoint
returns-clause-checkpoint c = checkpoints_at_first

pub returns-clause-begun : goal.returns-clause-begun
returns-clause-begun c = begins_at_first

pub returns-clause-first : goal.returns-clause-first
returns-clause-first c = first_calls_go_on

pub returns-clause-begins : goal.returns-clause-begins
returns-clause-begins c = first_calls_begin
