-- The entries that stand in the lines of a log.
use Rattle.std.specs.Prelude.{ℕ, ◌+◌, List, [], length, slice_index_or, Option, option_map}
use Rattle.std.specs.List.{filter_map, range_with_len}
use Rattle.pm_lines.specs.pm_model.Images.{words_of}
use Rattle.pm_lines.specs.pm_model.Parts.{Part}
use Rattle.pm_lines.specs.pm_model.Words.{line_bytes}
use Rattle.layout_model.specs.declared.lines.Draft.{Draft}
use Rattle.layout_model.specs.Entries.{decode_entry}

-- the bytes of the line in a slot, of each word the newest candidate
abbrev pub bytes_in : List Part → ℕ → List ℕ
bytes_in lines slot = line_bytes (words_of (slice_index_or lines slot (record { place = 0; cells = [] })).cells) 0

-- the entry that is valid in a slot, beside the slot: its sequence number is the log's base plus the slot
abbrev pub entry_in : List Part → ℕ → ℕ → Option (ℕ × Draft)
entry_in lines base slot = option_map (λ d. (slot, d)) (decode_entry (bytes_in lines slot) (base + slot))

-- the valid slots by rising number, each with its entry; every slot is looked at, and the others are passed over
abbrev pub entries_in : List Part → ℕ → List (ℕ × Draft)
entries_in lines base = filter_map (entry_in lines base) (range_with_len 0 (length lines))
