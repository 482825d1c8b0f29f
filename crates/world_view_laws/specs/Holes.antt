-- The holes that a write fills before it writes in place, by the mode.
use Rattle.std.specs.Prelude.{◌-◌, ◌/◌, ◌&&◌, ◌||◌, ℕ, Bool, count_by, Option, Some, None, is_none, nat_lt, option_map}
use Rattle.std.specs.List.{range_with_len}
use Rattle.std.specs.Option.{option_map_or}
use Rattle.in_flight.specs.block_counts.Counts.{blocks_for}
use Rattle.file_calls.specs.extent_model.Extents.{disk_at}
use Rattle.file_calls.specs.file_overlay.Runs.{staged_at}
use Rattle.in_flight.specs.posix_types.declared.call.Call.{Call}
use Rattle.in_flight.specs.posix_types.declared.call.Mode.{Mode}
use Rattle.in_flight.specs.posix_types.declared.call.Who.{Who}
use Rattle.in_flight.specs.posix_tables.declared.open.Description.{Description}
use Rattle.in_flight.specs.posix_tables.Open.{opened}
use Rattle.in_flight.specs.posix_spec.Put.{put_by}
use Rattle.write_end.specs.in_place.write_plan.Plans.{placed_at}
use Rattle.world_view_laws.specs.Views.{Disk, inode_on, map_on, runs_on, state_of, WorldView}

-- ---- holes

-- the file that a write puts bytes into, by its inode; none, where its handle is not open
abbrev pub file_of : WorldView → Who → Call → Option ℕ
file_of w who (Call.Write h x) = option_map (λ (d : Description). d.node) (opened w.disk.tables who h)
file_of w who (Call.Pwrite h place x) = option_map (λ (d : Description). d.node) (opened w.disk.tables who h)
file_of w who call = None

-- neither the map of the file nor a run that is staged of it has a block there
abbrev pub is_bare : Disk → ℕ → ℕ → Bool
is_bare d ino block = is_none (disk_at (map_on d ino) block) && is_none (staged_at (runs_on d ino) block)

-- A BLOCK OF A FILE IS ABSENT where it has none. In POSIX mode bytes below the published length go into the map's block, staged or not: so
-- a block that this length reaches is absent there where the map has none; any other one where it is not staged either.
abbrev pub is_absent : Mode → Disk → ℕ → ℕ → Bool
is_absent Mode.Strict d ino block = is_bare d ino block
is_absent Mode.Sync d ino block = is_bare d ino block
is_absent Mode.Posix d ino block =
    is_none (disk_at (map_on d ino) block) && (nat_lt block (blocks_for (inode_on d ino).size) || is_none (staged_at (runs_on d ino) block))

-- how many blocks of the file are absent, of those that have bytes in this range: from the first and before the second
abbrev pub absent_in : Mode → Disk → ℕ → ℕ × ℕ → ℕ
absent_in mode d ino range = count_by (is_absent mode d ino) (range_with_len (range.0 / 4096) (blocks_for range.1 - range.0 / 4096))

-- HOW MANY HOLES a call fills: as many as blocks are absent where it writes in place. Strict mode writes nothing in place.
abbrev pub holes_at : WorldView → Option ℕ → Option (ℕ × ℕ) → ℕ
holes_at w None range = 0
holes_at w (Some ino) range = option_map_or (absent_in w.start.mode w.disk ino) range 0

abbrev pub holes_of : WorldView → Who → Call → ℕ
holes_of w who call = holes_at w (file_of w who call) (placed_at (state_of w) (put_by (state_of w) who call))
