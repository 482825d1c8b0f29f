use Rattle.std.proofs.Common.{◌≡◌, take}
use Rattle.std.specs.Prelude.{count_by}
use Rattle.split_cases.specs.Summary.{is_file_entry}
use Rattle.split_cases.proofs.sums.files.Given as goal

-- those so far
abbrev pub invariant-loop-entry : goal.invariant-loop-entry
invariant-loop-entry l = l.sum ≡ count_by is_file_entry (take l.entry-index l.entries)
