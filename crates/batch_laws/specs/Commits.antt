-- A commit between two calls, done or cut off, each law as one statement.
use Rattle.std.specs.Prelude.{◌≡◌, ℕ, true, false, List, []}
use Rattle.eof_laws.specs.live_model.pm_model.Frames.{KeepsSingle}
use Rattle.eof_laws.specs.live_model.layout_model.Places.{Geometry}
use Rattle.eof_laws.specs.live_model.file_table.Files.{Files}
use Rattle.eof_laws.specs.live_model.k_split.Answers.{Changes}
use Rattle.eof_laws.specs.live_model.k_split.Order.{IsInOrder}
use Rattle.eof_laws.specs.live_model.k_split_model.View.{View}
use Rattle.eof_laws.specs.live_model.commute_laws.posix_types.declared.item.Item.{Item}
use Rattle.eof_laws.specs.live_model.posix_spec.Run.{Unfinished}
use Rattle.eof_laws.specs.live_model.posix_spec.State.{State}
use Rattle.eof_laws.specs.live_model.world_image_laws.Images.{HasLogHome}
use Rattle.eof_laws.specs.live_model.world_image_laws.Promised.{KeepsPromise}
use Rattle.batch_laws.specs.Ready.{GoesReady}

-- K-Split committed its batch: its volume stays and is the committed one; each image of the device reads as the one that was committed
-- before or as this one, and is else an image before.
pub record IsCommitted (k l : View) : Type 0 where
  pub volume : l.volume ≡ k.volume
  pub committed : l.committed ≡ k.volume
  pub order : IsInOrder l
  pub batched : l.batched ≡ true
  pub on : l.lost ≡ false
  pub changes : Changes k.committed k.volume k.cells l.cells
  pub singles : KeepsSingle k.cells l.cells

-- A COMMIT BETWEEN TWO CALLS: the device goes on as it did, and all of the history is kept.
pub record GoesCommitted (g : Geometry) (l : View) (files : Files) (count : ℕ) (numbers : List ℕ) (start : State) (history : List Item) : Type 0 where
  pub ready : GoesReady g l files count numbers start history
  pub front : ready.going.front ≡ history
  pub later : ready.going.later ≡ []

abbrev pub CommitGoesOn : Type 0
CommitGoesOn =
    (g : Geometry) (k l : View) (files : Files) (count : ℕ) (numbers : List ℕ) (start : State) (history : List Item)
    → GoesReady g k files count numbers start history → IsCommitted k l → GoesCommitted g l files count numbers start history

-- log lines that are at home, and show no entry, show none still
abbrev pub CommitKeepsLog : Type 0
CommitKeepsLog =
    (g : Geometry) (k l : View) (files : Files) (count : ℕ) (numbers : List ℕ) (start : State) (history : List Item)
    → GoesReady g k files count numbers start history → IsCommitted k l → HasLogHome k.committed k.cells [] → HasLogHome l.committed l.cells []

-- THE POWER WENT IN THE COMMIT, with the log lines at home: each image is the old medium or the new one, so that the device keeps the
-- promise, whatever is unfinished.
abbrev pub CommitKeepsPromise : Type 0
CommitKeepsPromise =
    (g : Geometry) (k l : View) (files : Files) (count : ℕ) (numbers : List ℕ) (start : State) (history : List Item) (unfinished : List Unfinished)
    → GoesReady g k files count numbers start history → HasLogHome k.committed k.cells [] → Changes k.committed k.volume k.cells l.cells
    → KeepsPromise g l.cells start history unfinished
