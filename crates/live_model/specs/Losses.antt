-- What is promised of the device once the power went.
use Rattle.std.specs.Prelude.{◌≢◌, List}
use Rattle.write_jobs.specs.pm_model.declared.Cell.{Cell}
use Rattle.write_jobs.specs.commute_laws.posix_types.declared.call.Mode.{Mode}
use Rattle.write_jobs.specs.commute_laws.posix_types.declared.item.Item.{Item}
use Rattle.write_jobs.specs.world_model.image_model.Volume.{Volume}
use Rattle.write_jobs.specs.world_model.posix_spec.Run.{Unfinished}
use Rattle.write_jobs.specs.world_model.posix_spec.State.{State}
use Rattle.write_jobs.specs.world_model.Jobs.{Job}
use Rattle.write_jobs.specs.world_image_laws.Back.{IsKeptBack}
use Rattle.live_model.specs.Standing.{Kept}

-- THE POWER WENT, in strict or in sync mode, after the history: whatever is put back of log lines and blocks of jobs, each image of the device is
-- kept with the calls of the jobs unfinished whose entry may stand in the log, and behind them the last ones: the call that lost
-- the power, if one did.
abbrev pub KeepsWhenLost : Volume → List Cell → Kept → List Job → State → List Item → List Unfinished → Type 0
KeepsWhenLost v cells kept jobs start history last =
    start.mode ≢ Mode.Posix → IsKeptBack v cells kept.first kept.claims jobs start history last
