-- The standing begins, as one statement.
use Rattle.std.specs.Prelude.{◌≡◌, ◌≢◌, ℕ, true, false, List, [], length}
use Rattle.eof_laws.specs.live_model.pm_model.Cells.{cell, is_lent}
use Rattle.eof_laws.specs.live_model.layout_model.declared.lines.Kind.TheVariants.{File}
use Rattle.eof_laws.specs.live_model.image_model.Volume.{inode}
use Rattle.eof_laws.specs.live_model.file_table.Files.{Files, runs_in, size_in}
use Rattle.eof_laws.specs.live_model.k_split.Order.{IsInOrder}
use Rattle.eof_laws.specs.live_model.k_split_model.View.{View}
use Rattle.eof_laws.specs.live_model.commute_laws.posix_types.declared.call.Mode.{Mode}
use Rattle.eof_laws.specs.live_model.posix_tables.Open.{nothing_open}
use Rattle.eof_laws.specs.live_model.posix_spec.State.{State}
use Rattle.eof_laws.specs.live_model.world_image_laws.Images.{IsRunning}
use Rattle.eof_laws.specs.live_model.Flying.{IsOut}
use Rattle.eof_laws.specs.live_model.Standing.{IsQuietBeside}
use Rattle.posix_mode_laws.specs.Device.{IsAllPublished}
use Rattle.batch_laws.specs.Ready.{GoesReady}

-- K-Split gathers, and nothing is gathered yet; the lengths that are kept are those of the inode lines, and no run is staged.
pub record BeginsToGather (k : View) (files : Files) : Type 0 where
  pub order : IsInOrder k
  pub batched : k.batched ≡ true
  pub on : k.lost ≡ false
  pub committed : k.committed ≡ k.volume
  pub count : length files.sizes ≡ length k.volume.inodes
  pub sizes : (ino : ℕ) → (inode k.volume ino).kind ≡ File → size_in files ino ≡ (inode k.volume ino).size
  pub others : (ino : ℕ) → (inode k.volume ino).kind ≢ File → size_in files ino ≡ 0
  pub runs : (ino : ℕ) → runs_in files ino ≡ []

-- THE DEVICE BEGINS: where the World runs on it with no claim, in POSIX mode, with nothing open and all lengths published.
abbrev pub ReadyBegins : Type 0
ReadyBegins =
    (k : View) (files : Files) (numbers : List ℕ) (start : State) (count : ℕ) → BeginsToGather k files → IsRunning k.volume k.cells [] numbers start count → start.mode ≡ Mode.Posix
    → start.tables ≡ nothing_open → IsAllPublished start → IsQuietBeside k.volume.geometry k.cells → ((i : ℕ) → is_lent (cell k.cells i) ≡ true → IsOut k.volume [] i)
    → GoesReady k.volume.geometry k files count numbers start []
