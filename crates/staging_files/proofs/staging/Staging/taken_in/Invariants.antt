use Rattle.std.proofs.Common.{take}
use Rattle.staging_files.specs.Keeps.{AreTaken}
use Rattle.staging_files.proofs.staging.Staging.taken_in.Given as goal

-- those of the runs so far
abbrev pub invariant-loop-run : goal.invariant-loop-run
invariant-loop-run l = AreTaken (take l.run-index l.self.out) l.staging l.taken
