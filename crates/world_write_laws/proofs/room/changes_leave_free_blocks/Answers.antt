use Rattle.world_write_laws.specs.Free.{frees_as_many, frees_dropped, lives_no_more, stays_free}
use Rattle.world_write_laws.proofs.room.changes_leave_free_blocks.Goals as goal

pub returns-clause-stays : goal.returns-clause-stays
returns-clause-stays c = stays_free

pub returns-clause-as_many : goal.returns-clause-as_many
returns-clause-as_many c = frees_as_many

pub returns-clause-lives : goal.returns-clause-lives
returns-clause-lives c = lives_no_more

pub returns-clause-dropped : goal.returns-clause-dropped
returns-clause-dropped c = frees_dropped
