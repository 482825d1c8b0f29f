use Rattle.world_step_laws.specs.RemoveCalls.{IsWorld-rmdir, IsWorld-unlink_closed, IsWorld-unlink_midway, IsWorld-unlink_open}
use Rattle.world_step_laws.proofs.names.names_go.Goals as goal

pub returns-clause-unlink_open : goal.returns-clause-unlink_open
returns-clause-unlink_open c = IsWorld-unlink_open

pub returns-clause-unlink_midway : goal.returns-clause-unlink_midway
returns-clause-unlink_midway c = IsWorld-unlink_midway

pub returns-clause-unlink_closed : goal.returns-clause-unlink_closed
returns-clause-unlink_closed c = IsWorld-unlink_closed

pub returns-clause-rmdir : goal.returns-clause-rmdir
returns-clause-rmdir c = IsWorld-rmdir
