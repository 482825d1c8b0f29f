use Rattle.world_image_laws.specs.Running.{changes_device, keeps_log_home, runs_on, stays_running}
use Rattle.world_image_laws.proofs.images.a_change_is_done.Goals as goal

pub returns-clause-device : goal.returns-clause-device
returns-clause-device c = changes_device

pub returns-clause-log : goal.returns-clause-log
returns-clause-log c = keeps_log_home

pub returns-clause-running : goal.returns-clause-running
returns-clause-running c = runs_on

pub returns-clause-idle : goal.returns-clause-idle
returns-clause-idle c = stays_running
