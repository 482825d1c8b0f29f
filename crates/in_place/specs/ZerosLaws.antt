-- Blocks behind the end of a file are zeroed while writes are in flight, each law as one statement.
use Rattle.std.specs.Prelude.{◌≡◌, ◌<◌, ◌/◌, ◌%◌, ℕ, Bool, List, [], ◌∷◌, length}
use Rattle.live_step_laws.specs.fsync_relink.layout_model.declared.lines.Kind.TheVariants.{File}
use Rattle.live_step_laws.specs.fsync_relink.layout_model.Places.{Geometry}
use Rattle.live_step_laws.specs.image_model.Volume.{extents, inode}
use Rattle.live_step_laws.specs.fsync_relink.extent_model.Extents.{disk_at}
use Rattle.write_plan.specs.live_model.file_reads.Reads.{block_in}
use Rattle.write_plan.specs.live_model.file_table.Files.{runs_in}
use Rattle.live_step_laws.specs.k_split_model.View.{View}
use Rattle.live_step_laws.specs.fsync_relink.k_split.Bytes.{IsOverwriteCut, IsOverwriteDone, tail_zeros}
use Rattle.live_step_laws.specs.fsync_relink.k_split.Loans.{MayLend}
use Rattle.live_step_laws.specs.fsync_relink.posix_types.declared.item.Item.{Item}
use Rattle.live_step_laws.specs.fsync_relink.posix_tables.Open.{Tables}
use Rattle.live_step_laws.specs.posix_spec.Run.{Unfinished, run}
use Rattle.live_step_laws.specs.posix_spec.State.{State}
use Rattle.write_plan.specs.live_model.Losses.{KeepsWhenLost}
use Rattle.write_plan.specs.live_model.Standing.{Kept, StandsAt}
use Rattle.in_place.specs.Zeros.{IsStagedAt, block_end, MayZero, ReadZero, staged_place}

-- ---- a staged block

-- A staged block can be written in place,
abbrev pub StandsToPlace : Type 0
StandsToPlace =
    (g : Geometry) (k : View) (t : Tables) (kept : Kept) (lines : Bool) (n : ℕ) (s : State) (ino from staging block : ℕ)
    → StandsAt g k t kept lines n s → IsStagedAt k kept ino from staging block
    → (b : ℕ) × MayLend k.volume k.cells staging block b

-- and so where it may be zeroed.
abbrev pub StandsToZero : Type 0
StandsToZero =
    (g : Geometry) (k : View) (t : Tables) (kept : Kept) (lines : Bool) (n : ℕ) (s : State) (ino from staging block : ℕ)
    → (stands : StandsAt g k t kept lines n s) → MayZero k kept stands.jobs ino from staging block
    → (b : ℕ) × MayLend k.volume k.cells staging block b

-- IT IS ZEROED from there to its end: they stand together in the same state.
abbrev pub StandsZeroed : Type 0
StandsZeroed =
    (g : Geometry) (k l : View) (t : Tables) (kept : Kept) (lines : Bool) (n : ℕ) (s : State) (ino from staging block : ℕ)
    → (stands : StandsAt g k t kept lines n s) → MayZero k kept stands.jobs ino from staging block
    → IsOverwriteDone staging (staged_place block from) (tail_zeros k.volume staging (staged_place block from)) k l
    → (now : StandsAt g l t kept lines n s) × (now.jobs ≡ stands.jobs) × (now.numbers ≡ stands.numbers)

-- THE POWER WENT in it, in the call c.
abbrev pub KeepsZeroed : Type 0
KeepsZeroed =
    (g : Geometry) (k l : View) (t : Tables) (kept : Kept) (lines : Bool) (n : ℕ) (start : State) (history : List Item)
    (c : Unfinished) (ino from staging block : ℕ)
    → (stands : StandsAt g k t kept lines n (run start history)) → MayZero k kept stands.jobs ino from staging block
    → IsOverwriteCut staging (staged_place block from) (tail_zeros k.volume staging (staged_place block from)) k l
    → KeepsWhenLost k.volume l.cells kept stands.jobs start history (c ∷ [])

-- ---- what reads zero

-- The block that was zeroed does, of the file itself or of a staging file, and so does a hole.
abbrev pub ZeroedReadZero : Type 0
ZeroedReadZero =
    (g : Geometry) (k l : View) (t : Tables) (kept : Kept) (lines : Bool) (n : ℕ) (s : State) (ino a from x p : ℕ)
    → StandsAt g k t kept lines n s → (inode k.volume ino).kind ≡ File → x < length k.volume.inodes
    → disk_at (extents k.volume x) (p / 4096) ≡ block_in k.volume (runs_in kept.files ino) ino (from / 4096)
    → p % 4096 ≡ from % 4096 → IsOverwriteDone x p (tail_zeros k.volume x p) k l
    → ReadZero k kept.files ino a from → ReadZero l kept.files ino a (block_end from)
