use Rattle.std.proofs.Common.{◌≡◌, take}
use Rattle.std.specs.Prelude.{count_by}
use Rattle.split_cases.specs.Summary.{is_called}
use Rattle.split_cases.proofs.sums.called.Given as goal

-- those so far
abbrev pub invariant-loop-item : goal.invariant-loop-item
invariant-loop-item l = l.sum ≡ count_by is_called (take l.item-index l.history)
