-- When K-Split gathers in POSIX mode, and the open files, the staging files and what is kept of files stand together with it, after a
-- history.
use Rattle.std.specs.Prelude.{◌≡◌, ◌≤◌, ◌+◌, ◌^◌, ℕ, Bool, true, Contains, List, [], length}
use Rattle.eof_laws.specs.Ends.{FilesEnd}
use Rattle.eof_laws.specs.live_model.layout_model.Places.{Geometry}
use Rattle.eof_laws.specs.live_model.layout_model.block_counts.declared.TheConstants.{LONGEST_FILE}
use Rattle.eof_laws.specs.live_model.layout_model.declared.lines.Draft.{Draft}
use Rattle.eof_laws.specs.live_model.layout_model.declared.lines.Kind.TheVariants.{File}
use Rattle.eof_laws.specs.live_model.image_model.Volume.{inode}
use Rattle.eof_laws.specs.live_model.file_table.Files.{Files, runs_in, size_in}
use Rattle.eof_laws.specs.live_model.k_split_model.View.{View}
use Rattle.eof_laws.specs.live_model.list_laws.Members.{In}
use Rattle.eof_laws.specs.live_model.commute_laws.posix_types.declared.item.Item.{Item}
use Rattle.eof_laws.specs.live_model.open_files.Numbered.{numbered_as}
use Rattle.eof_laws.specs.live_model.posix_tables.Open.{is_open, Tables}
use Rattle.eof_laws.specs.live_model.posix_laws.Orders.{AreOrdered}
use Rattle.eof_laws.specs.live_model.posix_spec.Run.{run}
use Rattle.eof_laws.specs.live_model.posix_spec.State.{State}
use Rattle.eof_laws.specs.live_model.staging_files.Keeps.{Agrees, AreFreeSingle, IsStaged, Staged}
use Rattle.eof_laws.specs.live_model.world_model.Stands.{number}
use Rattle.eof_laws.specs.live_model.Standing.{Kept, LinesStand, reserved_run}
use Rattle.batch_laws.specs.Ready.{GoesReady}
use Rattle.batch_laws.specs.Standing.{staged_of}

-- what the World keeps, with this staging and these files
abbrev pub with_parts : Kept → Staged → Files → Kept
with_parts kept staging files = record kept { staging = staging; files = files }

-- THEY STAND TOGETHER IN POSIX MODE, after the history: the device goes on, ready for a commit, by what is kept of files; no job is out
-- and no entry is logged; the log lines are out or at home, with no entry; the tables of the state are those of the open files; the
-- staging agrees with the batch, and has a run of its own out for each run that is staged; nothing of a file lies past its length
-- in memory; and no length is more than a file may have. At most n nodes were made since the lap began; and the last order of each
-- file, those of its staged runs among them, is at most n above what a mount leaves.
pub record PosixStandsAt (g : Geometry) (k : View) (t : Tables) (kept : Kept) (lines_out : Bool) (n : ℕ) (start : State) (history : List Item) : Type 0 where
  pub count : ℕ
  pub few : count ≤ n
  pub numbers : List ℕ
  pub ready : GoesReady g k kept.files count numbers start history
  pub none_out : kept.pending ≡ []
  pub none_claimed : kept.claims ≡ []
  pub lines : LinesStand lines_out k.volume k.cells kept
  pub tables : (run start history).tables ≡ numbered_as (number numbers) t
  pub open_are_files : (ino : ℕ) → is_open t ino ≡ true → (inode k.volume ino).kind ≡ File
  pub ordered : AreOrdered (run start history).entries
  pub staged : IsStaged kept.staging
  pub agrees : Agrees kept.staging k
  pub free_single : AreFreeSingle kept.staging k
  pub runs_out : (d : Draft) → In d (staged_of k.volume kept.files) → Contains kept.staging.out (reserved_run d)
  pub owed : length (staged_of k.volume kept.files) ≤ length kept.staging.out
  pub low : (ino : ℕ) → (inode k.volume ino).applied + length (runs_in kept.files ino) ≤ 2 ^ 62 + n
  pub ends : FilesEnd k.volume kept.files
  pub short : (ino : ℕ) → (inode k.volume ino).kind ≡ File → size_in kept.files ino ≤ LONGEST_FILE
