use Rattle.std.proofs.Common.{◌≡◌, ◌+◌, map}
use Rattle.std.specs.List.{range_with_len}
use Rattle.oplog_entry.specs.layout_model.Entries.{decode_entry}
use Rattle.oplog_entry.specs.layout_model.Journal.{journaled}
use Rattle.oplog_entry.specs.layout_model.Places.{log_line}
use Rattle.oplog_entry.specs.pm_model.Images.{words_of}
use Rattle.oplog_entry.specs.pm_model.Words.{line_bytes}
use Rattle.k_check.proofs.entries.read_slots.Given as goal

-- the slots so far
abbrev pub invariant-loop-slot : goal.invariant-loop-slot
invariant-loop-slot l =
    l.slots.items ≡ map (λ s. decode_entry (line_bytes (journaled (words_of l.pm)) (log_line l.geometry s)) (l.base + s)) (range_with_len 0 l.slot)
