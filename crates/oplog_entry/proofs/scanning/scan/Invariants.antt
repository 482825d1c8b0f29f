use Rattle.std.proofs.Common.{◌≡◌}
use Rattle.std.specs.List.{filter_map, range_with_len}
use Rattle.oplog_entry.specs.Scans.{entry_in}
use Rattle.oplog_entry.proofs.scanning.scan.Given as goal

-- the entries of the slots before this one
abbrev pub invariant-loop-slot : goal.invariant-loop-slot
invariant-loop-slot l = l.found.items ≡ filter_map (entry_in l.lines l.base) (range_with_len 0 l.slot)
