use Rattle.std.proofs.Common.{◌≡◌, ℕ, ◌<◌}
use Rattle.std.specs.Prelude.{slice_get, Some}
use Rattle.live_model.specs.Standing.{JobOut}
use Rattle.in_flight.proofs.jobs.keeping.holder_of.Given as goal

abbrev pub invariant-loop-job : goal.invariant-loop-job
invariant-loop-job l = (i : ℕ) (p : JobOut) → i < l.job-index → slice_get l.pending i ≡ Some p → p.draft.ino ≡ l.ino → p.who ≡ l.who
