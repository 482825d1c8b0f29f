use Rattle.std.proofs.Common.{◌≢◌, ◌<◌, ℕ}
use Rattle.k_journal.specs.Batch.{target}
use Rattle.k_journal.proofs.batches.place_of.Given as goal

abbrev pub invariant-loop-place : goal.invariant-loop-place
invariant-loop-place l = (k : ℕ) → k < l.place → target l.entries k ≢ l.line
