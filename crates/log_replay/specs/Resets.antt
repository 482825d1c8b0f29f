-- What files have applied counts anew where it is high.
use Rattle.std.specs.Prelude.{◌≡◌, ◌⊎◌, ◌≤◌, ◌^◌, ℕ, Ok}
use Rattle.k_check.specs.pm_model.Images.{words_of}
use Rattle.k_check.specs.image_model.Volume.{extents, inode, Volume}
use Rattle.k_split.specs.k_map_plans.Plans.{IsLiveFile}
use Rattle.world_image_laws.specs.Images.{HasOldLines, HasNoEntry}
use Rattle.log_replay.specs.Sheds.{IsSettled}
use Rattle.staging_files.specs.k_split_model.View.{View}
use Rattle.staging_files.specs.k_split.Resets.{IsResetAnswer}
use Rattle.log_replay.specs.Replays.{seen}
use Rattle.log_replay.specs.Quiet.{IsQuiet, ShowsAsBefore}

-- WHAT IS ASKED FOR: no line of the log is an entry of this lap, or of a later one.
pub record MayReset (k : View) : Type 0 where
  pub quiet : IsQuiet k
  pub no_entry : HasNoEntry k.volume (seen k)
  pub old_lines : HasOldLines k.volume (seen k)

-- the last entry that the inode has applied is of no high order
abbrev pub IsLow : Volume → ℕ → Type 0
IsLow v ino = (inode v ino).applied ≤ 2 ^ 62

-- NO FILE HAS APPLIED A HIGH ORDER: inodes have the kinds, sizes and maps that they had, and no line of the log is an entry.
pub record AreReset (old new : View) : Type 0 where
  pub shows : ShowsAsBefore old new
  pub no_entry : HasNoEntry new.volume (seen new)
  pub old_lines : HasOldLines new.volume (seen new)
  pub kind : (ino : ℕ) → (inode new.volume ino).kind ≡ (inode old.volume ino).kind
  pub size : (ino : ℕ) → (inode new.volume ino).size ≡ (inode old.volume ino).size
  pub map : (ino : ℕ) → extents new.volume ino ≡ extents old.volume ino
  pub low : (ino : ℕ) → IsLow new.volume ino

-- one inode: it was low, and nothing was done; or it has applied nothing then
abbrev pub IsResetOne : ℕ → View → View → Type 0
IsResetOne ino old new =
    (IsLow old.volume ino × (new ≡ old)) ⊎ (IsLiveFile ino old.volume × IsResetAnswer ino old new (Ok tt))

-- WHAT CLOSES A MOUNT: the device is settled, and then no file has applied a high order.
pub record IsClosed (old new : View) : Type 0 where
  pub middle : View
  pub settled : IsSettled old.volume.geometry (words_of old.cells) middle
  pub reset : AreReset middle new
