-- Bytes of a file that read zero, and what zeroes them in place.
use Rattle.std.specs.Prelude.{◌≡◌, ◌≢◌, ◌≤◌, ◌<◌, ◌+◌, ◌*◌, ◌/◌, ◌%◌, ℕ, List, Some}
use Rattle.live_step_laws.specs.fsync_relink.pm_model.Images.{IsImage}
use Rattle.live_step_laws.specs.fsync_relink.pm_model.Words.{Words}
use Rattle.live_step_laws.specs.fsync_relink.layout_model.Journal.{journaled}
use Rattle.live_step_laws.specs.fsync_relink.layout_model.declared.lines.Kind.TheVariants.{File}
use Rattle.live_step_laws.specs.image_model.Content.{byte_in}
use Rattle.live_step_laws.specs.image_model.Volume.{inode}
use Rattle.write_plan.specs.file_overlay.Runs.{staged_at}
use Rattle.write_plan.specs.live_model.file_reads.Reads.{block_in}
use Rattle.write_plan.specs.live_model.file_table.Files.{Files, runs_in, size_in}
use Rattle.live_step_laws.specs.k_split_model.View.{View}
use Rattle.live_step_laws.specs.fsync_relink.list_laws.Members.{In}
use Rattle.live_step_laws.specs.world_model.Jobs.{Job}
use Rattle.write_plan.specs.live_model.Standing.{Kept}

-- THE BYTES READ ZERO: those of the file from a place on up to another, by what is staged of it and its map, in each image.
abbrev pub ReadZero : View → Files → ℕ → ℕ → ℕ → Type 0
ReadZero k files ino from to =
    (image : Words) → IsImage k.cells image → (i : ℕ) → from ≤ i → i < to
    → byte_in (journaled image) (block_in k.volume (runs_in files ino) ino (i / 4096)) i ≡ 0

-- the end of the block that a byte lies in
abbrev pub block_end : ℕ → ℕ
block_end from = 4096 * (from / 4096) + 4096

-- the place in the staging file of a byte that lies in one of its blocks
abbrev pub staged_place : ℕ → ℕ → ℕ
staged_place block from = 4096 * block + from % 4096

-- A BLOCK OF A FILE IS STAGED HERE: that of a place of the file is this block of a staging file.
pub record IsStagedAt (k : View) (kept : Kept) (ino from staging block : ℕ) : Type 0 where
  pub file : (inode k.volume ino).kind ≡ File
  pub at : staged_at (runs_in kept.files ino) (from / 4096) ≡ Some (staging, block)

-- A STAGED BLOCK MAY BE ZEROED from a place of its file on: the file ends there or before, by what is kept of it, the block of the
-- place is this one of a staging file, and no job that is out is of the file.
pub record MayZero (k : View) (kept : Kept) (jobs : List Job) (ino from staging block : ℕ) : Type 0 where
  pub file : (inode k.volume ino).kind ≡ File
  pub behind : size_in kept.files ino ≤ from
  pub others : (j : Job) → In j jobs → j.draft.ino ≢ ino
  pub at : staged_at (runs_in kept.files ino) (from / 4096) ≡ Some (staging, block)
