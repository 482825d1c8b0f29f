use Rattle.std.proofs.Common.{◌≡◌, ◌≤◌, length, vec_capacity}
use Rattle.std.specs.Prelude.{take}
use Rattle.write_jobs.specs.Jobs.{blocks_of}
use Rattle.write_begin.proofs.stages.staging.note_blocks.Given as goal

-- those of the loans so far, with room for all
abbrev pub invariant-loop-loan : goal.invariant-loop-loan
invariant-loop-loan l = record {
  items : l.blocks.items ≡ blocks_of (take l.loan-index l.loans);
  room : length l.loans ≤ vec_capacity l.blocks;
}
