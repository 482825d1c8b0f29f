use Rattle.world_write_laws.specs.Free.{finds_each, finds_its_blocks, stays_free_relinked, takes_one_at_most}
use Rattle.world_write_laws.proofs.room.runs_find_free_blocks.Goals as goal

pub returns-clause-takes : goal.returns-clause-takes
returns-clause-takes c = takes_one_at_most

pub returns-clause-finds : goal.returns-clause-finds
returns-clause-finds c = finds_its_blocks

pub returns-clause-relinked : goal.returns-clause-relinked
returns-clause-relinked c = stays_free_relinked

pub returns-clause-each : goal.returns-clause-each
returns-clause-each c = finds_each
