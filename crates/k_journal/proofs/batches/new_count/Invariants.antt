use Rattle.std.proofs.Common.{◌≡◌, ◌+◌, ◌≤◌, length, take}
use Rattle.k_journal.specs.Batch.{new_lines}
use Rattle.k_journal.proofs.batches.new_count.Given as goal

-- the lines of the others so far are counted
abbrev pub invariant-loop-entry : goal.invariant-loop-entry
invariant-loop-entry l = record {
  counted : l.count ≡ length l.entries + length (new_lines l.entries (take l.entry-index l.others));
  few : l.count ≤ 128 + l.entry-index;
}
