-- What a gathering asks for, and what it answers and leaves.
use Rattle.std.specs.Prelude.{◌≡◌, ◌≢◌, ◌⊎◌, ◌≤◌, ◌<◌, ◌+◌, ℕ, zero, suc, [], length, sum_by, count_by, Result, Ok, Err, if◌then◌else◌}
use Rattle.std.specs.declared.alloc.AllocError.{AllocError}
use Rattle.layout_model.specs.declared.lines.Inode.{Inode}
use Rattle.file_table.specs.layout_model.Places.{reserve}
use Rattle.staging_files.specs.image_model.Live.{is_file}
use Rattle.staging_files.specs.image_model.Volume.{inode, Volume}
use Rattle.file_table.specs.file_overlay.Runs.{Overlaid}
use Rattle.file_table.specs.Files.{ChangesFile, Files, runs_in, size_in}
use Rattle.fsync_relink.specs.Others.{AllApart, GoesOn, KeepsRest}
use Rattle.fsync_relink.specs.Publishes.{IsPublishDone, IsPublishStopped, MayPublish}
use Rattle.staging_files.specs.k_journal.declared.outcomes.Commit.{Commit}
use Rattle.staging_files.specs.k_map_plans.Plans.{IsLiveFile}
use Rattle.staging_files.specs.k_split_model.View.{View}
use Rattle.staging_files.specs.k_split.declared.faults.KFault.{KFault}
use Rattle.staging_files.specs.k_split.Laps.{IsBaseAnswer, next_base}
use Rattle.staging_files.specs.k_split.MapChanges.{free_blocks_in}
use Rattle.staging_files.specs.GivesUp.{AreCutOff, AreGivenUp, AreSomeGivenUp, nothing_staged}
use Rattle.staging_files.specs.Keeps.{Staged}

-- how many runs are staged of all files, and how many files there are
abbrev pub total_runs : Files → ℕ
total_runs t = sum_by (λ (o : Overlaid). length o.runs) t.overlays

abbrev pub file_count : Volume → ℕ
file_count v = count_by (λ (x : Inode). is_file x.kind) v.inodes

-- 1 where the inode is a file
abbrev pub file_at : Volume → ℕ → ℕ
file_at v ino = if is_file (inode v ino).kind then 1 else 0

-- ---- what it asks for

-- WHAT A GATHERING ASKS FOR: a size for each inode, runs of files alone, each file's as its publishing asks, no two files with a
-- block in common, and a free block for each run beside what the first relink wants.
pub record MayGather (t : Files) (k : View) : Type 0 where
  pub lines : length t.sizes ≡ length k.volume.inodes
  pub each : (ino : ℕ) → IsLiveFile ino k.volume → MayPublish ino (size_in t ino) (runs_in t ino) k
  pub none : (ino : ℕ) → ¬ IsLiveFile ino k.volume → runs_in t ino ≡ []
  pub apart : (ino other : ℕ) → ino ≢ other → AllApart (runs_in t ino) (runs_in t other)
  pub room : total_runs t + reserve k.volume.geometry ≤ free_blocks_in k + 3

-- ---- what becomes of K-Split

-- the file of a line is published, from k to l, where there is one
abbrev pub IsLineDone : ℕ → Files → View → View → Type 0
IsLineDone ino t k l =
    (IsLiveFile ino k.volume × IsPublishDone ino (size_in t ino) (runs_in t ino) k l) ⊎ ((¬ IsLiveFile ino k.volume) × (l ≡ k))

-- its publishing stopped by a fault
abbrev pub IsLineStopped : KFault → ℕ → Files → View → View → Type 0
IsLineStopped fault ino t k l = IsLiveFile ino k.volume × IsPublishStopped fault ino (size_in t ino) (runs_in t ino) k l

-- the lines below n are done, one after the other
abbrev pub AreDone : ℕ → Files → View → View → Type 0
AreDone zero t k l = l ≡ k
AreDone (suc n) t k l = (middle : View) × AreDone n t k middle × IsLineDone n t middle l

-- Some first lines are done; then the power was off, or the publishing of the next file stopped by this fault.
pub record AreDoneUpTo (fault : KFault) (t : Files) (k l : View) : Type 0 where
  pub done : ℕ
  pub below : done ≤ length t.sizes
  pub middle : View
  pub before : AreDone done t k middle
  pub stopped : ((fault ≡ KFault.PowerLost) × (l ≡ middle)) ⊎ IsLineStopped fault done t middle l

-- ---- the table

-- no run is kept of a line below n, and all else is as it was
pub record AreCleared (n : ℕ) (old new : Files) : Type 0 where
  pub sizes : new.sizes ≡ old.sizes
  pub cleared : (ino : ℕ) → ino < n → runs_in new ino ≡ []
  pub others : (ino : ℕ) → n ≤ ino → runs_in new ino ≡ runs_in old ino

-- ---- the answers

-- Of one line. Done: its file is published, and none of its runs is kept; or the line has no file, and nothing was done.
abbrev pub IsPublishedLine : ℕ → Files → View → Files → View → Result Commit AllocError → Type 0
IsPublishedLine ino t k u l (Ok Commit.Done) =
    (IsLiveFile ino k.volume × IsPublishDone ino (size_in t ino) (runs_in t ino) k l × ChangesFile ino [] (size_in t ino) t u)
    ⊎ ((¬ IsLiveFile ino k.volume) × (l ≡ k) × (u ≡ t))
IsPublishedLine ino t k u l (Ok Commit.PowerLost) = (u ≡ t) × IsLineStopped KFault.PowerLost ino t k l
IsPublishedLine ino t k u l (Err e) = (u ≡ t) × IsLineStopped KFault.NoMemory ino t k l

-- all lines are done
pub record AreAllDone (t : Files) (k : View) (u : Files) (l : View) : Type 0 where
  pub done : AreDone (length t.sizes) t k l
  pub table : AreCleared (length t.sizes) t u
  pub rest : KeepsRest k l

abbrev pub IsPublishAllAnswer : Files → View → Files → View → Result Commit AllocError → Type 0
IsPublishAllAnswer t k u l (Ok Commit.Done) = AreAllDone t k u l
IsPublishAllAnswer t k u l (Ok Commit.PowerLost) = AreDoneUpTo KFault.PowerLost t k l
IsPublishAllAnswer t k u l (Err e) = AreDoneUpTo KFault.NoMemory t k l

-- ---- staging files and the log

-- THE NEXT LAP HAS BEGUN, with nothing staged: the staging files gave up their blocks, then the log base rose, and K-Split goes on.
pub record IsLapBegun (k : View) (s : Staged) (l : View) : Type 0 where
  pub bare : View
  pub given_up : AreGivenUp 4 k bare
  pub lap : IsBaseAnswer (next_base k.volume) bare l Commit.Done
  pub goes_on : GoesOn l
  pub staging : s ≡ nothing_staged

-- Or the power went while staging files gave up their blocks, or in the transaction of the log base; or memory ran out.
abbrev pub IsLapAnswer : View → Staged → View → Result Commit AllocError → Type 0
IsLapAnswer k s l (Ok Commit.Done) = IsLapBegun k s l
IsLapAnswer k s l (Ok Commit.PowerLost) =
    AreCutOff k l ⊎ ((bare : View) × AreGivenUp 4 k bare × IsBaseAnswer (next_base k.volume) bare l Commit.PowerLost)
IsLapAnswer k s l (Err e) = AreSomeGivenUp k l

-- ---- a gathering

-- all files are published, and then it went on to this
abbrev pub IsGatheredTo : Files → View → Staged → Files → View → Result Commit AllocError → Type 0
IsGatheredTo t k s u l result = (published : View) × AreAllDone t k u published × IsLapAnswer published s l result

-- WHAT `gather` ANSWERS AND LEAVES. Done: all files are published, and then the next lap began with nothing staged. Else it
-- stopped while files were published, or behind that.
abbrev pub IsGatherAnswer : Files → View → Staged → Files → View → Result Commit AllocError → Type 0
IsGatherAnswer t k s u l (Ok Commit.Done) = IsGatheredTo t k s u l (Ok Commit.Done)
IsGatherAnswer t k s u l (Ok Commit.PowerLost) = AreDoneUpTo KFault.PowerLost t k l ⊎ IsGatheredTo t k s u l (Ok Commit.PowerLost)
IsGatherAnswer t k s u l (Err e) = AreDoneUpTo KFault.NoMemory t k l ⊎ IsGatheredTo t k s u l (Err e)
