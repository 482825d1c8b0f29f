use Rattle.std.proofs.Common.{◌≡◌, ℕ, ◌<◌}
use Rattle.std.specs.Prelude.{◌≢◌, slice_get, Some}
use Rattle.live_model.specs.Standing.{JobOut}
use Rattle.in_flight.proofs.jobs.pending.place_of.Given as goal

abbrev pub invariant-loop-place : goal.invariant-loop-place
invariant-loop-place l = (i : ℕ) (p : JobOut) → i < l.place → slice_get l.pending i ≡ Some p → p.who ≢ l.who
