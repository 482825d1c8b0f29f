-- Nothing comes to lie past the end of a file, each law as one statement.
use Rattle.std.specs.Prelude.{◌≡◌, ◌≤◌, ◌<◌, ℕ, [], ◌∷◌, ◌++◌, length, None, Result, Ok}
use Rattle.file_table.specs.block_counts.Counts.{blocks_for}
use Rattle.log_checkpoint.specs.k_plans.layout_model.declared.lines.Draft.{Draft}
use Rattle.log_checkpoint.specs.k_plans.layout_model.declared.lines.Kind.TheVariants.{File}
use Rattle.log_checkpoint.specs.k_plans.image_model.Volume.{extents, inode, Volume}
use Rattle.file_table.specs.extent_model.Extents.{disk_at}
use Rattle.eof_laws.specs.Ends.{DraftEnds, FilesEnd}
use Rattle.file_table.specs.file_overlay.declared.runs.Run.{Run}
use Rattle.file_table.specs.Files.{ChangesFile, Files, runs_in, size_in}
use Rattle.log_checkpoint.specs.fsync_relink.Publishes.{IsPublishDone}
use Rattle.log_checkpoint.specs.k_plans.k_journal.declared.outcomes.Commit.{Commit}
use Rattle.log_checkpoint.specs.k_plans.k_split_model.View.{View}
use Rattle.log_checkpoint.specs.k_plans.Whole.{IsWhole}
use Rattle.log_checkpoint.specs.Gathers.{IsGatherAnswer}
use Rattle.log_checkpoint.specs.staging_files.declared.runs.StageFault.{StageFault}
use Rattle.log_checkpoint.specs.staging_files.declared.runs.StageRun.{StageRun}
use Rattle.log_checkpoint.specs.staging_files.Keeps.{Staged}
use Rattle.log_checkpoint.specs.staging_files.Reserves.{IsReserveAnswer}

-- Maps that end with their files, of which nothing is staged;
abbrev pub EndBegun : Type 0
EndBegun =
    (v : Volume) (files : Files)
    → ((ino : ℕ) → (inode v ino).kind ≡ File → (block : ℕ) → blocks_for (inode v ino).size ≤ block → disk_at (extents v ino) block ≡ None)
    → ((ino : ℕ) → (inode v ino).kind ≡ File → size_in files ino ≡ (inode v ino).size) → ((ino : ℕ) → runs_in files ino ≡ [])
    → FilesEnd v files

-- the runs of a file, once they are published;
abbrev pub EndPublished : Type 0
EndPublished =
    (ino : ℕ) (k l : View) (old new : Files) → IsPublishDone ino (size_in old ino) (runs_in old ino) k l
    → ChangesFile ino [] (size_in old ino) old new → FilesEnd k.volume old → FilesEnd l.volume new

-- those of all files, once they are gathered;
abbrev pub EndGathered : Type 0
EndGathered =
    (k l : View) (staging : Staged) (old new : Files) → IsGatherAnswer old k staging new l (Ok Commit.Done)
    → FilesEnd k.volume old → FilesEnd l.volume new

-- a run of blocks that is reserved;
abbrev pub EndReserved : Type 0
EndReserved =
    (count : ℕ) (k l : View) (old new : Staged) (taken : StageRun) (files : Files) → IsWhole k.volume
    → (let r : Result StageRun StageFault = Ok taken in IsReserveAnswer count old k new l r)
    → FilesEnd k.volume files → FilesEnd l.volume files

-- and the run of an entry that ends with the file, which it leaves no shorter.
abbrev pub EndLaid : Type 0
EndLaid =
    (v : Volume) (d : Draft) (run : Run) (old new : Files) → d.ino < length old.sizes → DraftEnds d
    → size_in old d.ino ≤ d.size → run.file_block ≡ d.file_block → run.count ≡ d.count
    → ChangesFile d.ino (runs_in old d.ino ++ run ∷ []) d.size old new → FilesEnd v old → FilesEnd v new
