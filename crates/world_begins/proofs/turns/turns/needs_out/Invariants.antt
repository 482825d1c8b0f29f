use Rattle.std.proofs.Common.{◌≡◌, ◌+◌, drop}
use Rattle.world_begins.specs.Turns.{needs_by}
use Rattle.world_begins.proofs.turns.turns.needs_out.Given as goal

abbrev pub invariant-loop-job : goal.invariant-loop-job
invariant-loop-job l = l.sum + needs_by l.mode l.tables.tables l.files (drop l.job-index l.pending) ≡ needs_by l.mode l.tables.tables l.files l.pending
