use Rattle.world_write_laws.specs.Free.{leaves_for_the_next, stays_free_begun, stays_free_finished, stays_free_given_up}
use Rattle.world_write_laws.proofs.room.jobs_leave_free_blocks.Goals as goal

pub returns-clause-begun : goal.returns-clause-begun
returns-clause-begun c = stays_free_begun

pub returns-clause-finished : goal.returns-clause-finished
returns-clause-finished c = stays_free_finished

pub returns-clause-given_up : goal.returns-clause-given_up
returns-clause-given_up c = stays_free_given_up

pub returns-clause-next : goal.returns-clause-next
returns-clause-next c = leaves_for_the_next
