use Rattle.std.proofs.Common.{ℕ, ◌<◌}
use Rattle.staging_files.specs.Keeps.{IsStaging}
use Rattle.staging_files.specs.Reserves.{IsFreeRun}
use Rattle.staging_files.proofs.staging.Staging.lowest_run.Given as goal

abbrev pub invariant-loop-staging : goal.invariant-loop-staging
invariant-loop-staging l = (y c : ℕ) → IsStaging y → y < l.staging → ¬ IsFreeRun l.self l.count y c
