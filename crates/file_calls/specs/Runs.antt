-- When the calls run over K-Split, the open files and what is kept of files, beside the jobs that are out.
use Rattle.std.specs.Prelude.{◌≡◌, ◌≤◌, ◌+◌, ℕ, true, false, length}
use Rattle.eof_laws.specs.layout_model.Places.{Geometry, reserve}
use Rattle.eof_laws.specs.layout_model.block_counts.declared.TheConstants.{LONGEST_FILE}
use Rattle.layout_model.specs.declared.lines.Kind.TheVariants.{File}
use Rattle.eof_laws.specs.image_model.Room.{unused_blocks}
use Rattle.eof_laws.specs.image_model.Volume.{inode}
use Rattle.eof_laws.specs.file_table.Files.{Files, runs_in, size_in}
use Rattle.eof_laws.specs.k_split_model.View.{View}
use Rattle.live_step_laws.specs.file_reads.Reads.{FileCanBeRead}
use Rattle.open_files.specs.posix_tables.Open.{is_open, Tables}
use Rattle.open_files.specs.posix_spec.State.{State}
use Rattle.live_step_laws.specs.live_model.Standing.{Kept, StandsAt}

-- THE CALLS RUN in a state: they stand together in it, with the log lines out.
abbrev pub RunsAs : Geometry → View → Tables → Kept → ℕ → State → Type 0
RunsAs g k t x n s = StandsAt g k t x true n s

-- what the World keeps, with these files
abbrev pub with_files : Kept → Files → Kept
with_files x files = record x { files = files }

-- so they run in some state
pub record RunsInSome (k : View) (t : Tables) (files : Files) : Type 0 where
  pub geometry_is : Geometry
  pub kept : Kept
  pub made : ℕ
  pub state : State
  pub runs : RunsAs geometry_is k t (with_files kept files) made state

-- WHAT A CALL ASKS FOR in either mode: the power was on; of each inode line something is kept; what is open are files, each of which can be
-- read, and has no more bytes than a file may have; and enough blocks are free for a change of maps.
pub record CanRun (k : View) (t : Tables) (files : Files) : Type 0 where
  pub on : k.lost ≡ false
  pub count : length files.sizes ≡ length k.volume.inodes
  pub open_are_files : (ino : ℕ) → is_open t ino ≡ true → (inode k.volume ino).kind ≡ File
  pub readable : (ino : ℕ) → (inode k.volume ino).kind ≡ File → FileCanBeRead k.volume k.cells (runs_in files ino) ino
  pub short : (ino : ℕ) → (inode k.volume ino).kind ≡ File → size_in files ino ≤ LONGEST_FILE
  pub room : reserve k.volume.geometry ≤ unused_blocks k.volume + 3
