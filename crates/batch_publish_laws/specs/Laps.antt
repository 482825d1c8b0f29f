-- The next lap of the log begins behind a Checkpoint.
use Rattle.batch_laws.specs.Ready.{GoesReady}
use Rattle.batch_laws.specs.Standing.{staged_of}
use Rattle.live_model.specs.commute_laws.posix_types.declared.item.Item.{Item}
use Rattle.live_model.specs.file_table.Files.{Files}
use Rattle.live_model.specs.k_split.Answers.{Changes}
use Rattle.live_model.specs.k_split.Order.{IsInOrder}
use Rattle.live_model.specs.k_split_model.View.{View}
use Rattle.live_model.specs.layout_model.Places.{Geometry}
use Rattle.live_model.specs.pm_model.Frames.{KeepsSingle}
use Rattle.live_model.specs.posix_spec.State.{State}
use Rattle.live_model.specs.world_model.image_model.Reading.{base_set}
use Rattle.live_model.specs.image_model.Reading.{Reads}
use Rattle.live_model.specs.layout_model.Journal.{journaled}
use Rattle.live_model.specs.pm_model.Images.{IsImage}
use Rattle.live_model.specs.pm_model.Words.{Words}
use Rattle.live_model.specs.pm_model.declared.Cell.{Cell}
use Rattle.live_model.specs.posix_spec.Run.{Unfinished}
use Rattle.live_model.specs.world_image_laws.Images.{ShowsLog}
use Rattle.live_model.specs.world_image_laws.Promised.{IsKept}
use Rattle.std.specs.Prelude.{List, [], false, true, ℕ, ◌^◌, ◌≡◌, ◌≤◌}

-- K-Split, whose batch was empty, committed the next log base, and nothing else.
pub record IsNextLap (base : ℕ) (k l : View) : Type 0 where
  pub volume : l.volume ≡ base_set base k.volume
  pub committed : l.committed ≡ l.volume
  pub order : IsInOrder l
  pub batched : l.batched ≡ true
  pub on : l.lost ≡ false
  pub changes : Changes k.committed (base_set base k.volume) k.cells l.cells
  pub singles : KeepsSingle k.cells l.cells
  pub least : 1 ≤ base
  pub most : base ≤ 2 ^ 63

-- THE NEXT LAP BEGINS, once no run is staged and the batch was committed: the device goes on in the same state, and no node was made since.
abbrev pub LapGoesOn : Type 0
LapGoesOn =
    (g : Geometry) (k l : View) (files : Files) (count : ℕ) (numbers : List ℕ) (start : State) (history : List Item) (base : ℕ)
    → GoesReady g k files count numbers start history → staged_of k.volume files ≡ [] → IsNextLap base k l → GoesReady g l files 0 numbers start history

-- WHERE THE POWER WENT in the commit of that base: each image keeps the promise, whatever is unfinished, the stronger one too, where by the lap that
-- it has its log shows no entry.
abbrev pub LapLossIsKept : Type 0
LapLossIsKept =
    (g : Geometry) (k : View) (files : Files) (count : ℕ) (numbers : List ℕ) (start : State) (history : List Item) (base : ℕ) (cells : List Cell) (image : Words) (unfinished : List Unfinished)
    → GoesReady g k files count numbers start history → staged_of k.volume files ≡ [] → 1 ≤ base → base ≤ 2 ^ 63 → Changes k.committed (base_set base k.volume) k.cells cells → IsImage cells image
    → (Reads k.committed.geometry (journaled image) k.committed → ShowsLog k.committed [] (journaled image))
    → (Reads k.committed.geometry (journaled image) (base_set base k.volume) → ShowsLog (base_set base k.volume) [] (journaled image))
    → IsKept g start history unfinished image
