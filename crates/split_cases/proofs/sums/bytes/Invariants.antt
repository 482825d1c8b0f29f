use Rattle.std.proofs.Common.{◌≡◌, ◌≤◌, ◌*◌, ◌^◌, take}
use Rattle.std.specs.Prelude.{sum_by}
use Rattle.split_cases.specs.Summary.{bytes_of}
use Rattle.split_cases.proofs.sums.bytes.Given as goal

-- those so far, each below 2^64
abbrev pub invariant-loop-entry : goal.invariant-loop-entry
invariant-loop-entry l = (l.sum ≡ sum_by bytes_of (take l.entry-index l.entries)) × (l.sum ≤ 2 ^ 64 * l.entry-index)
