use Rattle.live_step_laws.proofs.Devices.{changes_device_read, changes_device_with, keeps_log_home_with, promise_read, promise_with}
use Rattle.live_step_laws.proofs.changes.changes_that_write_spare_blocks.Goals as goal

pub returns-clause-done : goal.returns-clause-done
returns-clause-done c = changes_device_with

pub returns-clause-log : goal.returns-clause-log
returns-clause-log c = keeps_log_home_with

pub returns-clause-cut : goal.returns-clause-cut
returns-clause-cut c = promise_with

pub returns-clause-done_read : goal.returns-clause-done_read
returns-clause-done_read c = changes_device_read

pub returns-clause-cut_read : goal.returns-clause-cut_read
returns-clause-cut_read c = promise_read
