-- The device goes on behind a change or a call that writes nothing that the medium shows, as one statement.
use Rattle.std.specs.Prelude.{◌≡◌, ◌≢◌, ◌≤◌, ◌+◌, ℕ, true, false, List, [], ◌++◌, length}
use Rattle.eof_laws.specs.live_model.pm_model.Cells.{cell, is_lent}
use Rattle.eof_laws.specs.live_model.pm_model.Images.{IsImage}
use Rattle.eof_laws.specs.live_model.pm_model.Words.{Words}
use Rattle.eof_laws.specs.live_model.layout_model.Journal.{journaled}
use Rattle.eof_laws.specs.live_model.layout_model.Places.{Geometry, reserve}
use Rattle.eof_laws.specs.live_model.layout_model.declared.lines.Draft.{Draft}
use Rattle.eof_laws.specs.live_model.layout_model.declared.lines.Kind.TheVariants.{File}
use Rattle.eof_laws.specs.live_model.image_model.Live.{is_live}
use Rattle.eof_laws.specs.live_model.image_model.Room.{unused_blocks}
use Rattle.eof_laws.specs.live_model.image_model.Volume.{inode}
use Rattle.eof_laws.specs.live_model.file_table.Files.{Files, runs_in, size_in}
use Rattle.eof_laws.specs.live_model.k_split.Order.{IsInOrder}
use Rattle.eof_laws.specs.live_model.k_split_model.View.{View}
use Rattle.eof_laws.specs.live_model.list_laws.Members.{In}
use Rattle.eof_laws.specs.live_model.commute_laws.posix_types.declared.item.Item.{Item}
use Rattle.eof_laws.specs.live_model.posix_spec.Run.{run}
use Rattle.eof_laws.specs.live_model.posix_spec.State.{Fits, State}
use Rattle.eof_laws.specs.live_model.posix_laws.Publishes.{IsPublishing}
use Rattle.eof_laws.specs.live_model.world_step_laws.Ages.{AreAged}
use Rattle.eof_laws.specs.live_model.world_step_laws.Counts.{HasShape}
use Rattle.eof_laws.specs.live_model.world_image_laws.Images.{IsHeaded}
use Rattle.eof_laws.specs.live_model.Flying.{IsOut}
use Rattle.eof_laws.specs.live_model.Standing.{IsQuietBeside}
use Rattle.posix_mode_laws.specs.Batch.{AddsQuietly, IsBatch, KeepsShown}
use Rattle.batch_laws.specs.Standing.{as_claims, PosixGoing, sides_of, staged_of}

-- What is so of the K-Split behind it, and of the state of the calls, whatever is found of its images: as `PosixGoing` has it.
pub record IsLeftGoing (g : Geometry) (l : View) (e : Files) (count : ℕ) (s : State) : Type 0 where
  pub order : IsInOrder l
  pub batched : l.batched ≡ true
  pub on : l.lost ≡ false
  pub geometry : l.volume.geometry ≡ g
  pub publishing : IsPublishing s
  pub fits : Fits s
  pub shape : HasShape l.volume s
  pub quiet : IsQuietBeside g l.cells
  pub home : (i : ℕ) → is_lent (cell l.cells i) ≡ true → IsOut l.volume [] i
  pub sizes : length e.sizes ≡ length l.volume.inodes
  pub bare : (ino : ℕ) → (inode l.volume ino).kind ≢ File → (runs_in e ino ≡ []) × (size_in e ino ≡ 0)
  pub alive : (d : Draft) → In d (staged_of l.volume e) → is_live l.volume d ≡ true
  pub aged : AreAged l.volume (as_claims (staged_of l.volume e)) count
  pub spare : reserve g ≤ unused_blocks l.volume + 3

-- An image of it comes from one of before: of the medium both show the same; the items more put nothing that the medium shows; and by the
-- words of this one the batch stands behind them.
pub record ComesFrom (g : Geometry) (k l : View) (files e : Files) (count : ℕ) (numbers after : List ℕ) (start : State) (history more : List Item) (going : PosixGoing g k files count numbers start history) (image : Words) : Type 0 where
  pub before : Words
  pub is : IsImage k.cells before
  pub shown : KeepsShown k.committed (journaled before) (journaled image)
  pub adds : AddsQuietly start going.front going.later (going.world before is).medium.state more
  pub batch : IsBatch (sides_of l e going.old_numbers after) (journaled image) start going.front (going.later ++ more)
  pub headed : IsHeaded g image

-- THE DEVICE GOES ON, by the front that it had.
abbrev pub GoingGoesOn : Type 0
GoingGoesOn =
    (g : Geometry) (k l : View) (files e : Files) (count next : ℕ) (numbers after : List ℕ) (start : State) (history more : List Item)
    → (going : PosixGoing g k files count numbers start history) → l.committed ≡ k.committed → IsLeftGoing g l e next (run start (history ++ more))
    → ((image : Words) → IsImage l.cells image → ComesFrom g k l files e count numbers after start history more going image) → PosixGoing g l e next after start (history ++ more)
