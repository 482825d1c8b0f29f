-- What `publish` asks for, and what it answers and leaves.
use Rattle.std.specs.Prelude.{◌≡◌, ◌≢◌, ◌⊎◌, ◌≤◌, ◌<◌, ◌+◌, ◌^◌, ◌/◌, ◌==◌, ◌&&◌, ℕ, Bool, true, false, List, [], ◌∷◌, length, All, AllPairs, Option, Some, None, if◌then◌else◌, Result, Ok, Err, alloc_error}
use Rattle.std.specs.List.{list_any}
use Rattle.std.specs.declared.alloc.AllocError.{AllocError}
use Rattle.log_laws.specs.pm_model.Cells.{cell, is_single}
use Rattle.log_laws.specs.pm_model.Powers.{is_on, Supply}
use Rattle.log_laws.specs.layout_model.block_counts.declared.TheConstants.{LONGEST_FILE}
use Rattle.log_laws.specs.layout_model.Places.{reserve}
use Rattle.log_laws.specs.image_model.Volume.{extents, inode, Volume}
use Rattle.file_overlay.specs.extent_model.Extents.{disk_at, is_within}
use Rattle.file_overlay.specs.extent_model.Moves.{IsMapped}
use Rattle.file_overlay.specs.declared.runs.Run.{Run}
use Rattle.file_overlay.specs.Laws.{IsEarlier}
use Rattle.file_overlay.specs.Runs.{Overlaid, staged_at}
use Rattle.k_split.specs.k_journal.declared.outcomes.Commit.{Commit}
use Rattle.k_split.specs.k_map_plans.Plans.{IsLiveFile, IsStagingFile}
use Rattle.k_split.specs.k_split_model.View.{View}
use Rattle.k_split.specs.declared.faults.KFault.{KFault}
use Rattle.k_split.specs.MapChanges.{free_blocks_in, IsRelinkAnswer, IsSizeAnswer}
use Rattle.k_split.specs.k_split_model.declared.map_changes.moves.Move.{Move}

-- ---- what it asks for

-- whether the run has the block of the staging file
abbrev pub has_staged : ℕ → ℕ → Run → Bool
has_staged x b run = (run.staging == x) && is_within run.staging_block run.count b

-- two runs share no block of a staging file
abbrev pub ShareNone : Run → Run → Type 0
ShareNone run other = (x b : ℕ) → has_staged x b run ≡ true → has_staged x b other ≡ false

-- A run of at least one block below file block 4,096, whose blocks are in its staging file. Each of their words has one
-- candidate, so that none is lent.
pub record IsStagedRun (k : View) (run : Run) : Type 0 where
  pub staging : IsStagingFile run.staging k.volume
  pub some : 1 ≤ run.count
  pub place : run.file_block + run.count ≤ 4096
  pub there : IsMapped (extents k.volume run.staging) run.staging_block run.count
  pub single : (b i : ℕ) → is_within run.staging_block run.count b ≡ true → disk_at (extents k.volume run.staging) b ≡ Some (i / 512)
      → is_single (cell k.cells i) ≡ true

-- WHAT `publish` ASKS FOR: the file and its length; runs that are staged and share no block; orders that rise above what the
-- file has applied; and a free block for each run beside what the first relink wants.
pub record MayPublish (ino size : ℕ) (runs : List Run) (k : View) : Type 0 where
  pub file : IsLiveFile ino k.volume
  pub size_fits : size ≤ LONGEST_FILE
  pub staged : All (IsStagedRun k) runs
  pub apart : AllPairs ShareNone runs
  pub rising : AllPairs IsEarlier runs
  pub orders : All (λ run. ((inode k.volume ino).applied < run.order) × (run.order ≤ 2 ^ 63)) runs
  pub room : length runs + reserve k.volume.geometry ≤ free_blocks_in k + 3

-- ---- what becomes of the volume

-- the disk block of a file block once the runs are published: that of the last run laid there, or as before
abbrev pub published_at : Volume → ℕ → ℕ → Option (ℕ × ℕ) → Option ℕ
published_at v ino b None = disk_at (extents v ino) b
published_at v ino b (Some place) = disk_at (extents v place.0) place.1

-- the order of the last run, or what was applied before
abbrev pub last_order : ℕ → List Run → ℕ
last_order applied [] = applied
last_order applied (run ∷ runs) = last_order run.order runs

-- THE RUNS ARE PUBLISHED: the file has the staged disk blocks, each file block that of the last run laid there, and elsewhere
-- what it had; its length is the size, and what it has applied the last order. The runs' blocks are in no staging file, and
-- all other staged blocks stay. Names, lines and maps of all others are as before.
pub record ArePublished (ino size : ℕ) (runs : List Run) (v w : Volume) : Type 0 where
  pub geometry : w.geometry ≡ v.geometry
  pub base : w.base ≡ v.base
  pub names : w.names ≡ v.names
  pub kind : (inode w ino).kind ≡ (inode v ino).kind
  pub generation : (inode w ino).generation ≡ (inode v ino).generation
  pub size_is : (inode w ino).size ≡ size
  pub applied : (inode w ino).applied ≡ last_order (inode v ino).applied runs
  pub map : (b : ℕ) → disk_at (extents w ino) b ≡ published_at v ino b (staged_at runs b)
  pub staged : (x b : ℕ) → IsStagingFile x v → disk_at (extents w x) b ≡ (if list_any (has_staged x b) runs then None else disk_at (extents v x) b)
  pub generations : (x : ℕ) → IsStagingFile x v → (inode w x).generation ≡ (inode v x).generation
  pub lines : (i : ℕ) → i ≢ ino → ¬ IsStagingFile i v → inode w i ≡ inode v i
  pub maps : (i : ℕ) → i ≢ ino → ¬ IsStagingFile i v → extents w i ≡ extents v i

-- ---- the changes of K-Split, one a run

-- the relink of a run, after which the file has this length
abbrev pub move_of : ℕ → ℕ → Run → Move
move_of ino size run =
    record {
      staging = run.staging;
      staging_block = run.staging_block;
      ino = ino;
      file_block = run.file_block;
      count = run.count;
      size = size;
      applied = run.order;
    }

-- the length once a run is relinked behind which these are left: the size with the last one, and as it was before
abbrev pub size_before : List Run → ℕ → ℕ → ℕ
size_before [] size was = size
size_before (run ∷ runs) size was = was

-- The runs are relinked by rising order, each whole, by one change of K-Split, which is durable before the next.
abbrev pub AreRelinked : ℕ → ℕ → List Run → View → View → Type 0
AreRelinked ino size [] k l = l ≡ k
AreRelinked ino size (run ∷ runs) k l =
    (middle : View) × IsRelinkAnswer (move_of ino (size_before runs size (inode k.volume ino).size) run) k middle (Ok tt)
    × AreRelinked ino size runs middle l

-- some first of them were; then a relink answered this fault
abbrev pub IsRelinkedUpTo : KFault → ℕ → ℕ → List Run → View → View → Type 0
IsRelinkedUpTo fault ino size [] k l = ⊥
IsRelinkedUpTo fault ino size (run ∷ runs) k l =
    let move = move_of ino (size_before runs size (inode k.volume ino).size) run in
    IsRelinkAnswer move k l (Err fault)
    ⊎ ((middle : View) × IsRelinkAnswer move k middle (Ok tt) × IsRelinkedUpTo fault ino size runs middle l)

-- With no run the file gets the size, where it has another one.
abbrev pub IsResized : ℕ → ℕ → View → View → Result (Unit {0}) KFault → Type 0
IsResized ino size k l result = ((inode k.volume ino).size ≢ size) × IsSizeAnswer ino size k l result

-- ---- the answers

-- done, from k to l
abbrev pub IsPublishDone : ℕ → ℕ → List Run → View → View → Type 0
IsPublishDone ino size [] k l = (((inode k.volume ino).size ≡ size) × (l ≡ k)) ⊎ IsResized ino size k l (Ok tt)
IsPublishDone ino size (run ∷ runs) k l = ArePublished ino size (run ∷ runs) k.volume l.volume × AreRelinked ino size (run ∷ runs) k l

-- stopped by a fault on the way
abbrev pub IsPublishStopped : KFault → ℕ → ℕ → List Run → View → View → Type 0
IsPublishStopped fault ino size [] k l = IsResized ino size k l (Err fault)
IsPublishStopped fault ino size (run ∷ runs) k l = IsRelinkedUpTo fault ino size (run ∷ runs) k l

-- what is answered where K-Split did not make a change
abbrev pub stopped_by : KFault → Result Commit AllocError
stopped_by (KFault.Refused errno) = Err alloc_error
stopped_by (KFault.Room room) = Err alloc_error
stopped_by KFault.PowerLost = Ok Commit.PowerLost
stopped_by KFault.NoMemory = Err alloc_error

-- the runs alone; the length alone; and the one or the other
abbrev pub IsRelinkedEach : ℕ → ℕ → List Run → View → View → Result Commit AllocError → Type 0
IsRelinkedEach ino size runs k l (Ok Commit.Done) = AreRelinked ino size runs k l
IsRelinkedEach ino size runs k l (Ok Commit.PowerLost) = IsRelinkedUpTo KFault.PowerLost ino size runs k l
IsRelinkedEach ino size runs k l (Err e) = IsRelinkedUpTo KFault.NoMemory ino size runs k l

abbrev pub IsResizedOnce : ℕ → ℕ → View → View → Result Commit AllocError → Type 0
IsResizedOnce ino size k l (Ok Commit.Done) = (((inode k.volume ino).size ≡ size) × (l ≡ k)) ⊎ IsResized ino size k l (Ok tt)
IsResizedOnce ino size k l (Ok Commit.PowerLost) = IsResized ino size k l (Err KFault.PowerLost)
IsResizedOnce ino size k l (Err e) = IsResized ino size k l (Err KFault.NoMemory)

abbrev pub IsCarriedOut : ℕ → ℕ → List Run → View → View → Result Commit AllocError → Type 0
IsCarriedOut ino size runs k l (Ok Commit.Done) = IsPublishDone ino size runs k l
IsCarriedOut ino size runs k l (Ok Commit.PowerLost) = IsPublishStopped KFault.PowerLost ino size runs k l
IsCarriedOut ino size runs k l (Err e) = IsPublishStopped KFault.NoMemory ino size runs k l

-- WHAT `publish` ANSWERS AND LEAVES, from the overlay o and k to p and l. Done: the runs are published, and none is laid.
-- Else the overlay is as it was: the power was off at the call and nothing was done, or it went on the way; or memory ran out
-- on the way.
abbrev pub IsPublishAnswer : ℕ → ℕ → Overlaid → View → Overlaid → View → Result Commit AllocError → Type 0
IsPublishAnswer ino size o k p l (Ok Commit.Done) = (p.runs ≡ []) × IsPublishDone ino size o.runs k l
IsPublishAnswer ino size o k p l (Ok Commit.PowerLost) = (p ≡ o) × ((l ≡ k) ⊎ IsPublishStopped KFault.PowerLost ino size o.runs k l)
IsPublishAnswer ino size o k p l (Err e) = (p ≡ o) × IsPublishStopped KFault.NoMemory ino size o.runs k l

-- what it takes of the power: all that is left exactly where it answers `PowerLost`
abbrev pub IsPublishPaid : Supply → Result Commit AllocError → Type 0
IsPublishPaid new (Ok Commit.Done) = is_on new ≡ true
IsPublishPaid new (Ok Commit.PowerLost) = is_on new ≡ false
IsPublishPaid new (Err e) = is_on new ≡ true
