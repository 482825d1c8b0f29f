use Rattle.std.proofs.Common.{◌≡◌, ◌≤◌, ◌<◌, ℕ, true}
use Rattle.staging_files.specs.Keeps.{is_kept_free}
use Rattle.staging_files.proofs.staging.Staging.has_free_run.Given as goal

abbrev pub invariant-loop-b : goal.invariant-loop-b
invariant-loop-b l = (i : ℕ) → l.block ≤ i → i < l.b → is_kept_free l.self l.staging i ≡ true
