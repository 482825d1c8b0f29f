-- Blocks that a range of a file lacks, and what filling them leaves.
use Rattle.std.specs.Prelude.{◌≡◌, ◌≢◌, ◌⊎◌, ◌<◌, ◌≤◌, ◌+◌, ◌-◌, ◌&&◌, ℕ, Bool, true, false, List, [], ◌∷◌, length, count_by, is_none, Some, None, IsSome, Result, Ok, Err}
use Rattle.std.specs.List.{range_with_len}
use Rattle.live_step_laws.specs.k_split_laws.pm_model.Frames.{KeepsSingle, SameLent}
use Rattle.live_step_laws.specs.k_split_laws.pm_model.Powers.{is_on, Supply}
use Rattle.live_step_laws.specs.k_split_laws.extent_model.Extents.{disk_at}
use Rattle.live_step_laws.specs.block_counts.Counts.{chains_for}
use Rattle.write_plan.specs.file_overlay.Runs.{staged_at}
use Rattle.write_plan.specs.file_overlay.declared.runs.Run.{Run}
use Rattle.live_step_laws.specs.k_split_laws.layout_model.Places.{reserve}
use Rattle.live_step_laws.specs.k_split_laws.image_model.Volume.{extents, inode, Volume}
use Rattle.live_step_laws.specs.world_write_laws.HolesLaws.{KeepsLine}
use Rattle.write_plan.specs.eof_laws.Ends.{FilesEnd}
use Rattle.write_plan.specs.live_model.file_table.Files.{Files, runs_in}
use Rattle.live_step_laws.specs.k_split_laws.k_split_model.View.{View}
use Rattle.live_step_laws.specs.k_split_laws.k_split.MapChanges.{free_blocks_in}
use Rattle.write_plan.specs.live_model.staging_files.Keeps.{Staged}
use Rattle.live_step_laws.specs.k_split_laws.Left.{IsLeftOf}
use Rattle.live_step_laws.specs.k_split_laws.posix_types.declared.item.Item.{Item}
use Rattle.live_step_laws.specs.k_split_laws.posix_spec.Run.{run, Unfinished}
use Rattle.live_step_laws.specs.k_split_laws.posix_spec.State.{State}
use Rattle.write_plan.specs.live_model.Losses.{KeepsWhenLost}
use Rattle.in_place.specs.Gaps.{HasFile, Stays}
use Rattle.std.specs.declared.alloc.AllocError.{AllocError}
use Rattle.in_place.specs.declared.placing.holes.Holes.{Holes}

-- the file has the block: in its map, or staged
abbrev pub IsPresent : Volume → Files → ℕ → ℕ → Type 0
IsPresent v files ino block = IsSome (disk_at (extents v ino) block) ⊎ IsSome (staged_at (runs_in files ino) block)

abbrev pub is_absent : Volume → Files → ℕ → ℕ → Bool
is_absent v files ino block = is_none (disk_at (extents v ino) block) && is_none (staged_at (runs_in files ino) block)

-- how many of so many blocks from one on it lacks
abbrev pub absent_count : Volume → Files → ℕ → ℕ → ℕ → ℕ
absent_count v files ino first count = count_by (is_absent v files ino) (range_with_len first count)

-- so many have to be free: these, one for each run that is out, and the reserve less 2
abbrev pub holes_need : View → Staged → Files → ℕ → ℕ → ℕ → ℕ
holes_need k staging files ino first count = absent_count k.volume files ino first count + length staging.out + reserve k.volume.geometry - 2

-- So many blocks from one on are not staged; the next one is, unless the range ends there.
pub record IsUnstaged (runs : List Run) (first end count : ℕ) : Type 0 where
  pub within : first + count ≤ end
  pub none : (m : ℕ) → first ≤ m → m < first + count → staged_at runs m ≡ None
  pub next : first + count < end → IsSome (staged_at runs (first + count))

-- A World in which no job of the file is out, with these runs of the staging out.
pub record HasRuns (k : View) (staging : Staged) (files : Files) (ino : ℕ) : Type 0 where
  pub has : HasFile k files ino
  pub staging_is : has.kept.staging ≡ staging

-- The maps of other files stay, and their lines; each block that the file had is where it was, and only blocks that it lacked are new.
pub record FillsMap (v w : Volume) (files : Files) (ino first count : ℕ) : Type 0 where
  pub geometry : w.geometry ≡ v.geometry
  pub base : w.base ≡ v.base
  pub line : KeepsLine (inode v ino) (inode w ino)
  pub lines : (i : ℕ) → i ≢ ino → inode w i ≡ inode v i
  pub maps : (i : ℕ) → i ≢ ino → extents w i ≡ extents v i
  pub kept : (m b : ℕ) → disk_at (extents v ino) m ≡ Some b → disk_at (extents w ino) m ≡ Some b
  pub new : (m : ℕ) → disk_at (extents w ino) m ≢ disk_at (extents v ino) m → (first ≤ m) × (m < first + count) × (is_absent v files ino m ≡ true)

-- THE RANGE HAS ALL ITS BLOCKS, and no call sees a change: nothing was done where none was absent; the World stands together in the same state; nothing comes to
-- lie past the end of a file; and of the free blocks those that were absent are gone, and what the chain has more, which is one at most.
pub record FillsRange (k l : View) (staging : Staged) (files : Files) (ino first count : ℕ) : Type 0 where
  pub none : absent_count k.volume files ino first count ≡ 0 → l ≡ k
  pub maps : FillsMap k.volume l.volume files ino first count
  pub present : (m : ℕ) → first ≤ m → m < first + count → IsPresent l.volume files ino m
  pub free : free_blocks_in l + absent_count k.volume files ino first count + chains_for (length (extents l.volume ino)) ≡ free_blocks_in k + chains_for (length (extents k.volume ino))
  pub chain : chains_for (length (extents l.volume ino)) ≤ chains_for (length (extents k.volume ino)) + 1
  pub size : length l.cells ≡ length k.cells
  pub lent : SameLent k.cells l.cells
  pub singles : KeepsSingle k.cells l.cells
  pub ends : FilesEnd k.volume files → FilesEnd l.volume files
  pub stays : (in_world : HasRuns k staging files ino) → Stays k files ino in_world.has l

-- TOO FEW BLOCKS ARE FREE, and nothing was done.
pub record LacksFree (k l : View) (staging : Staged) (files : Files) (ino first count need room : ℕ) : Type 0 where
  pub some : 1 ≤ absent_count k.volume files ino first count
  pub need_is : need ≡ holes_need k staging files ino first count
  pub room_is : room ≡ free_blocks_in k
  pub lacks : room < need
  pub same : l ≡ k

-- memory ran out, maybe behind some of them: no call sees a change
pub record FillsSome (k l : View) (staging : Staged) (files : Files) (ino first count : ℕ) : Type 0 where
  pub maps : FillsMap k.volume l.volume files ino first count
  pub ends : FilesEnd k.volume files → FilesEnd l.volume files
  pub stays : (in_world : HasRuns k staging files ino) → Stays k files ino in_world.has l

-- THE POWER WENT in it, in whatever call: the device is left of the one before.
pub record LosesHoles (k l : View) (staging : Staged) (files : Files) (ino : ℕ) : Type 0 where
  pub left : (in_world : HasRuns k staging files ino) → IsLeftOf in_world.has.g k.cells l.cells
  pub kept : (in_world : HasRuns k staging files ino) (start : State) (history : List Item) (c : Unfinished) → in_world.has.s ≡ run start history
      → KeepsWhenLost k.volume l.cells in_world.has.kept in_world.has.stands.jobs start history (c ∷ [])

abbrev pub IsHolesAnswer : View → View → Staged → Files → ℕ → ℕ → ℕ → Result Holes AllocError → Type 0
IsHolesAnswer k l staging files ino first count (Ok Holes.Filled) = FillsRange k l staging files ino first count
IsHolesAnswer k l staging files ino first count (Ok (Holes.Lacking need room)) = LacksFree k l staging files ino first count need room
IsHolesAnswer k l staging files ino first count (Ok Holes.PowerLost) = LosesHoles k l staging files ino
IsHolesAnswer k l staging files ino first count (Err e) = FillsSome k l staging files ino first count

-- `PowerLost` exactly where the power is off; nothing is taken where too little is free (nor where nothing is absent: `spared` of `fill_absent`)
abbrev pub IsHolesPaid : Supply → Supply → Result Holes AllocError → Type 0
IsHolesPaid old new (Ok Holes.Filled) = is_on new ≡ true
IsHolesPaid old new (Ok (Holes.Lacking need room)) = (new ≡ old) × (is_on new ≡ true)
IsHolesPaid old new (Ok Holes.PowerLost) = is_on new ≡ false
IsHolesPaid old new (Err e) = is_on new ≡ true
