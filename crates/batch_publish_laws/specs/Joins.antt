-- Where a change of maps joins the batch: as it is, or begun anew behind a commit; and where the power goes then.
use Rattle.batch_laws.specs.Ready.{GoesReady}
use Rattle.batch_publish_laws.specs.Changes.{AreSpareInBoth, IsMapGathered}
use Rattle.live_model.specs.commute_laws.posix_types.declared.item.Item.{Item}
use Rattle.live_model.specs.file_table.Files.{Files}
use Rattle.live_model.specs.image_model.Reading.{Reads}
use Rattle.live_model.specs.image_model.Volume.{Volume}
use Rattle.live_model.specs.k_split.MapChanges.{ChangesMaps}
use Rattle.live_model.specs.k_split.Order.{IsInOrder}
use Rattle.live_model.specs.k_split_model.View.{once_committed, View}
use Rattle.live_model.specs.layout_model.Journal.{journaled}
use Rattle.live_model.specs.layout_model.Places.{Geometry}
use Rattle.live_model.specs.pm_model.Frames.{KeepsSingle}
use Rattle.live_model.specs.pm_model.Images.{IsImage}
use Rattle.live_model.specs.pm_model.Words.{Words}
use Rattle.live_model.specs.posix_spec.Run.{Unfinished}
use Rattle.live_model.specs.posix_spec.State.{State}
use Rattle.live_model.specs.world_image_laws.Images.{ShowsLog}
use Rattle.live_model.specs.world_image_laws.Promised.{IsKept}
use Rattle.std.specs.Prelude.{List, [], false, true, ℕ, ◌≡◌, ◌⊎◌}

-- the batch that a change joins: as it was, or begun anew, once it was committed
abbrev pub IsBase : View → View → Type 0
IsBase k base = (base ≡ k) ⊎ (base ≡ once_committed k)

-- The change wrote blocks that neither volume of the base names: each image reads as the committed one, and is else an image before, but for words
-- of these blocks.
pub record IsWrittenFrom (blocks : List ℕ) (base k l : View) : Type 0 where
  pub changes : ChangesMaps blocks k.committed base.committed k.cells l.cells
  pub reads : (image : Words) → IsImage l.cells image → Reads base.committed.geometry (journaled image) base.committed
  pub spare : AreSpareInBoth blocks base

-- It joined the batch of the base.
pub record IsMapJoined (blocks : List ℕ) (base k l : View) (w : Volume) : Type 0 where
  pub volume : l.volume ≡ w
  pub committed : l.committed ≡ base.committed
  pub order : IsInOrder l
  pub batched : l.batched ≡ true
  pub on : l.lost ≡ false
  pub written : IsWrittenFrom blocks base k l
  pub singles : KeepsSingle k.cells l.cells

-- the base, by the cells behind the change
abbrev pub base_behind : View → View → View
base_behind base l = record base { cells = l.cells }

-- SO THE DEVICE GOES ON AT THE BASE, by the words that the change left, in the state before; and from there it is a change that writes no word more.
-- What a change of the batch leaves may be told of these two alone.
abbrev pub JoinGoesOn : Type 0
JoinGoesOn =
    (g : Geometry) (k l base : View) (files : Files) (count : ℕ) (numbers : List ℕ) (start : State) (history : List Item) (blocks : List ℕ) (w : Volume)
    → GoesReady g k files count numbers start history → IsBase k base → IsMapJoined blocks base k l w
    → GoesReady g (base_behind base l) files count numbers start history × IsMapGathered blocks (base_behind base l) l w

-- WHERE THE POWER WENT in it: each image with no entry in its log keeps the promise, whatever is unfinished.
abbrev pub JoinLossIsKept : Type 0
JoinLossIsKept =
    (g : Geometry) (k l base : View) (files : Files) (count : ℕ) (numbers : List ℕ) (start : State) (history : List Item) (blocks : List ℕ) (unfinished : List Unfinished)
    → GoesReady g k files count numbers start history → IsBase k base → IsWrittenFrom blocks base k l → (image : Words) → IsImage l.cells image → ShowsLog k.committed [] (journaled image)
    → IsKept g start history unfinished image
