use Rattle.std.proofs.Common.{◌≡◌, ◌<◌, ◌≤◌, ℕ}
use Rattle.std.specs.Prelude.{None}
use Rattle.write_plan.specs.file_overlay.Runs.{staged_at}
use Rattle.in_place.proofs.placing.holes.unstaged_from.Given as goal

abbrev pub invariant-loop-block : goal.invariant-loop-block
invariant-loop-block l = (m : ℕ) → l.first ≤ m → m < l.block → staged_at l.overlay.runs m ≡ None
