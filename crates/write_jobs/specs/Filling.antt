-- What `fill` answers.
use Rattle.pm_lines.specs.pm_model.Powers.{Supply}
use Rattle.write_jobs.specs.declared.jobs.fills.Filled.{Filled}
use Rattle.write_jobs.specs.declared.jobs.fills.Filled.TheVariants.{PowerLost, Ready}
use Rattle.write_jobs.specs.Jobs.{IsCutOff, IsFilled, JobView}

-- The job is filled, with the power on; or the power went, and is off.
abbrev pub IsFilledBy : JobView → Supply → Filled → Type 0
IsFilledBy old power (Ready filled) = IsFilled old power filled
IsFilledBy old power (PowerLost job) = IsCutOff old power job
