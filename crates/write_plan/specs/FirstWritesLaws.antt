-- The first write of a lap.
use Rattle.std.specs.Prelude.{◌≡◌, ◌≤◌, ◌+◌, ℕ, Bool, length, Some}
use Rattle.eof_laws.specs.block_counts.Counts.{blocks_for}
use Rattle.eof_laws.specs.layout_model.declared.lines.Kind.TheVariants.{File}
use Rattle.eof_laws.specs.layout_model.Places.{data_blocks, Geometry, reserve}
use Rattle.eof_laws.specs.image_model.Volume.{extents, inode}
use Rattle.eof_laws.specs.Ends.{FilesEnd}
use Rattle.eof_laws.specs.k_split_model.MapChangesChanges.{holes}
use Rattle.eof_laws.specs.k_split_model.View.{View}
use Rattle.eof_laws.specs.file_table.Files.{size_in}
use Rattle.eof_laws.specs.posix_types.declared.call.Mode.{Mode}
use Rattle.eof_laws.specs.posix_tables.Open.{Tables}
use Rattle.eof_laws.specs.posix_tables.Room.{write_need}
use Rattle.fsync_relink.specs.posix_spec.State.{State}
use Rattle.live_model.specs.data_route.Writes.{plan_of}
use Rattle.write_plan.specs.Asks.{room_in}
use Rattle.live_model.specs.k_split.MapChanges.{free_blocks_in}
use Rattle.live_model.specs.staging_files.GivesUp.{nothing_staged}
use Rattle.live_model.specs.staging_files.Reserves.{IsLacking}
use Rattle.live_model.specs.Standing.{Kept, StandsAt}

-- WHILE NOTHING IS STAGED and nothing lies past the end of a file, a write that there is room for does not lack blocks for the run of
-- its plan, in any mode.
abbrev pub FirstWriteFits : Type 0
FirstWriteFits =
    (g : Geometry) (k : View) (t : Tables) (kept : Kept) (lines : Bool) (n : ℕ) (s : State) (mode : Mode) (size start len need has : ℕ) (run : ℕ × ℕ)
    → StandsAt g k t kept lines n s → kept.staging ≡ nothing_staged → FilesEnd k.volume kept.files
    → write_need mode size start (start + len) ≤ room_in (data_blocks k.volume.geometry) kept.files → (plan_of mode size start len).staged ≡ Some run
    → ¬ IsLacking run.1 kept.staging k need has

-- And then as many blocks are free as a file lacks below its end, and the reserve.
abbrev pub FirstHolesFit : Type 0
FirstHolesFit =
    (g : Geometry) (k : View) (t : Tables) (kept : Kept) (lines : Bool) (n : ℕ) (s : State) (ino first count : ℕ)
    → StandsAt g k t kept lines n s → kept.staging ≡ nothing_staged → FilesEnd k.volume kept.files → (inode k.volume ino).kind ≡ File
    → first + count ≤ blocks_for (size_in kept.files ino)
    → length (holes (extents k.volume ino) first count) + reserve k.volume.geometry ≤ free_blocks_in k
