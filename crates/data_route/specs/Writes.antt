-- What a write does by its mode. Sizes and places are in bytes. A write of at least one byte begins at `offset` and ends
-- before `end`, in a file of `size` bytes.
use Rattle.std.specs.Prelude.{ℕ, ◌+◌, ◌-◌, ◌*◌, ◌/◌, ◌%◌, ◌&&◌, nat_lt, max, Bool, true, false, if◌then◌else◌, Option, Some, None}
use Rattle.std.specs.Option.{option_map_or}
use Rattle.block_counts.specs.Counts.{blocks_for}
use Rattle.file_overlay.specs.extent_model.Extents.{is_between, is_within}
use Rattle.posix_types.specs.declared.call.Mode.{Mode}
use Rattle.data_route.specs.declared.writes.WritePlan.{WritePlan}

-- whether blocks are staged: always in strict mode, and else where the write reaches past the old end
abbrev pub stages : Mode → ℕ → ℕ → Bool
stages Mode.Strict size end = true
stages Mode.Sync size end = nat_lt size end
stages Mode.Posix size end = nat_lt size end

-- the first block that is staged: that of the first byte, and in the other modes not before the block of the old end
abbrev pub first_staged : Mode → ℕ → ℕ → ℕ
first_staged Mode.Strict size offset = offset / 4096
first_staged Mode.Sync size offset = max (size / 4096) (offset / 4096)
first_staged Mode.Posix size offset = max (size / 4096) (offset / 4096)

-- the blocks that are staged, up to that of the last byte: the first one, and how many
abbrev pub staged_by : Mode → ℕ → ℕ → ℕ → Option (ℕ × ℕ)
staged_by mode size offset end =
    if stages mode size end then Some (first_staged mode size offset, blocks_for end - first_staged mode size offset) else None

-- where the bytes end that are written in place: at the staged blocks, or at the end of the write
abbrev pub in_place_end : Mode → ℕ → ℕ → ℕ → ℕ
in_place_end mode size offset end = if stages mode size end then 4096 * first_staged mode size offset else end

abbrev pub in_place_by : Mode → ℕ → ℕ → ℕ → Option (ℕ × ℕ)
in_place_by mode size offset end =
    if nat_lt offset (in_place_end mode size offset end) then Some (offset, in_place_end mode size offset end) else None

-- whether the rest of the last block is cleaned: the file ends inside it, and the write begins in a later block
abbrev pub cleans : ℕ → ℕ → Bool
cleans size offset = nat_lt 0 (size % 4096) && nat_lt (size / 4096) (offset / 4096)

-- the plan of a write of `len` bytes; one of no byte does nothing
abbrev pub plan_of : Mode → ℕ → ℕ → ℕ → WritePlan
plan_of mode size offset len = if nat_lt 0 len
    then record {
      clean_tail = cleans size offset;
      in_place = in_place_by mode size offset (offset + len);
      staged = staged_by mode size offset (offset + len);
      new_size = max size (offset + len);
    }
    else record { clean_tail = false; in_place = None; staged = None; new_size = size }

-- whether a plan writes a byte in place, and whether it stages its block
abbrev pub is_in_place : WritePlan → ℕ → Bool
is_in_place plan i = option_map_or (λ (range : ℕ × ℕ). is_between range.0 range.1 i) plan.in_place false

abbrev pub is_staged : WritePlan → ℕ → Bool
is_staged plan i = option_map_or (λ (run : ℕ × ℕ). is_within run.0 run.1 (i / 4096)) plan.staged false
