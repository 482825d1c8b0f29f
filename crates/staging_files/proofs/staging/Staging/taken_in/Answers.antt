use Rattle.staging_files.proofs.StagedLaws.{none_taken}
use Rattle.staging_files.proofs.staging.Staging.taken_in.Goals as goal

pub loop-run-init : goal.loop-run-init
loop-run-init c = none_taken c.args.staging
