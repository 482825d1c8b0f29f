-- An unmount: the lengths of all files go to the medium in one commit, once no run is staged.
use Rattle.batch_laws.specs.Ready.{GoesReady}
use Rattle.batch_laws.specs.Standing.{staged_of}
use Rattle.live_model.specs.commute_laws.posix_types.declared.item.Item.{Item}
use Rattle.live_model.specs.file_table.Files.{Files, size_in}
use Rattle.live_model.specs.image_model.Volume.{Volume, inode}
use Rattle.live_model.specs.k_split.Answers.{Changes}
use Rattle.live_model.specs.k_split.k_plans.Whole.{IsWhole}
use Rattle.live_model.specs.k_split_model.MapChangesChanges.{with_size}
use Rattle.live_model.specs.k_split_model.View.{View}
use Rattle.live_model.specs.layout_model.Journal.{journaled}
use Rattle.live_model.specs.layout_model.Places.{Geometry}
use Rattle.live_model.specs.layout_model.declared.lines.Inode.{Inode}
use Rattle.live_model.specs.layout_model.declared.lines.Kind.TheVariants.{File}
use Rattle.live_model.specs.pm_model.Images.{IsImage}
use Rattle.live_model.specs.pm_model.Words.{Words}
use Rattle.live_model.specs.pm_model.declared.Cell.{Cell}
use Rattle.live_model.specs.posix_spec.Run.{run}
use Rattle.live_model.specs.posix_spec.State.{State}
use Rattle.live_model.specs.world_image_laws.Images.{ShowsLog}
use Rattle.live_model.specs.world_image_laws.Promised.{IsKept}
use Rattle.live_model.specs.world_step_laws.Worlds.{IsWorld}
use Rattle.std.specs.Prelude.{List, [], length, ℕ, ◌≡◌, ◌≢◌}

-- Each file has the length in its line that it has in memory; all else stays.
pub record HasLengths (v w : Volume) (files : Files) : Type 0 where
  pub lines : List Inode
  pub is_set : w ≡ record v { inodes = lines }
  pub count : length lines ≡ length v.inodes
  pub of_files : (ino : ℕ) → (inode v ino).kind ≡ File → inode w ino ≡ with_size (size_in files ino) (inode v ino)
  pub others : (ino : ℕ) → (inode v ino).kind ≢ File → inode w ino ≡ inode v ino
  pub whole : IsWhole w

-- THE LENGTHS GO OUT, by changes that gathered and the commit of them: an image that reads as that volume is of the state of the calls, with
-- all bytes of it.
abbrev pub LengthsGoOut : Type 0
LengthsGoOut =
    (g : Geometry) (k : View) (files : Files) (count : ℕ) (numbers : List ℕ) (start : State) (history : List Item) (w : Volume) (cells : List Cell) (image : Words)
    → GoesReady g k files count numbers start history → staged_of k.volume files ≡ [] → HasLengths k.volume w files → Changes k.committed w k.cells cells → IsImage cells image
    → IsWorld w [] [] (journaled image) numbers (run start history) count

-- WHERE THE POWER WENT in that commit, or behind it: each image with no entry in its log keeps the promise, the stronger one too.
abbrev pub LengthsLossIsKept : Type 0
LengthsLossIsKept =
    (g : Geometry) (k : View) (files : Files) (count : ℕ) (numbers : List ℕ) (start : State) (history : List Item) (w : Volume) (cells : List Cell) (image : Words)
    → GoesReady g k files count numbers start history → staged_of k.volume files ≡ [] → HasLengths k.volume w files → Changes k.committed w k.cells cells → IsImage cells image
    → ShowsLog k.committed [] (journaled image)
    → IsKept g start history [] image
