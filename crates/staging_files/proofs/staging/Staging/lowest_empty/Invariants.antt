use Rattle.std.proofs.Common.{ℕ, ◌<◌}
use Rattle.staging_files.specs.Keeps.{IsStaging, IsKeptEmpty}
use Rattle.staging_files.proofs.staging.Staging.lowest_empty.Given as goal

abbrev pub invariant-loop-staging : goal.invariant-loop-staging
invariant-loop-staging l = (y : ℕ) → IsStaging y → y < l.staging → ¬ IsKeptEmpty (record { out = l.self-inside.out.items; given = l.self-inside.given }) y
