use Rattle.std.proofs.Common.{ℕ, ◌<◌}
use Rattle.staging_files.specs.Reserves.{IsFreeRun}
use Rattle.staging_files.proofs.staging.Staging.lowest_in.Given as goal

abbrev pub invariant-loop-block : goal.invariant-loop-block
invariant-loop-block l = (c : ℕ) → c < l.block → ¬ IsFreeRun l.self l.count l.staging c
