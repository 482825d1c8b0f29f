use Rattle.std.proofs.Common.{◌≡◌, ◌≤◌, ◌*◌, ◌^◌, take}
use Rattle.std.specs.Prelude.{sum_by}
use Rattle.split_cases.specs.Summary.{written_by}
use Rattle.split_cases.proofs.sums.written.Given as goal

-- those so far, each below 2^64
abbrev pub invariant-loop-item : goal.invariant-loop-item
invariant-loop-item l = (l.sum ≡ sum_by written_by (take l.item-index l.history)) × (l.sum ≤ 2 ^ 64 * l.item-index)
