use Rattle.world_image_laws.specs.Starts.{begins_running, has_setting}
use Rattle.world_image_laws.proofs.images.a_mounted_device_runs.Goals as goal

pub returns-clause-setting : goal.returns-clause-setting
returns-clause-setting c = has_setting

pub returns-clause-running : goal.returns-clause-running
returns-clause-running c = begins_running
