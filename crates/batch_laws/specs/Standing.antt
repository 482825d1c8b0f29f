-- The standing of POSIX mode over K-Split, after a history.
use Rattle.std.specs.Prelude.{◌≡◌, ◌≢◌, ◌≤◌, ◌+◌, ℕ, true, false, List, [], ◌++◌, length, map}
use Rattle.std.specs.List.{flat_map, range_with_len}
use Rattle.eof_laws.specs.live_model.pm_model.Cells.{cell, is_lent}
use Rattle.eof_laws.specs.live_model.pm_model.Images.{IsImage}
use Rattle.eof_laws.specs.live_model.pm_model.Words.{Words}
use Rattle.eof_laws.specs.live_model.layout_model.Journal.{journaled}
use Rattle.eof_laws.specs.live_model.layout_model.Places.{data_blocks, Geometry, IsGeometry, reserve}
use Rattle.eof_laws.specs.live_model.layout_model.declared.lines.Draft.{Draft}
use Rattle.eof_laws.specs.live_model.layout_model.declared.lines.Kind.TheVariants.{File}
use Rattle.eof_laws.specs.live_model.image_model.Live.{is_live}
use Rattle.eof_laws.specs.live_model.image_model.Room.{unused_blocks}
use Rattle.eof_laws.specs.live_model.image_model.Volume.{inode, Volume}
use Rattle.eof_laws.specs.live_model.file_overlay.declared.runs.Run.{Run}
use Rattle.eof_laws.specs.live_model.file_table.Files.{Files, runs_in, size_in}
use Rattle.eof_laws.specs.live_model.k_split.Order.{IsInOrder}
use Rattle.eof_laws.specs.live_model.k_split_model.View.{View}
use Rattle.eof_laws.specs.live_model.list_laws.Members.{In}
use Rattle.eof_laws.specs.live_model.commute_laws.posix_types.declared.call.Mode.{Mode}
use Rattle.eof_laws.specs.live_model.commute_laws.posix_types.declared.item.Item.{Item}
use Rattle.eof_laws.specs.live_model.posix_spec.Run.{run}
use Rattle.eof_laws.specs.live_model.posix_spec.State.{Fits, State}
use Rattle.eof_laws.specs.live_model.posix_laws.Publishes.{IsPublishing}
use Rattle.eof_laws.specs.live_model.crash_spec.Posix.{LastBeforeCut}
use Rattle.eof_laws.specs.live_model.world_model.Rules.{HasFreeBlocks}
use Rattle.eof_laws.specs.live_model.world_step_laws.Ages.{AreAged}
use Rattle.eof_laws.specs.live_model.world_step_laws.Counts.{HasShape}
use Rattle.eof_laws.specs.live_model.world_image_laws.Images.{IsHeaded}
use Rattle.eof_laws.specs.live_model.Flying.{IsOut}
use Rattle.eof_laws.specs.live_model.Standing.{IsQuietBeside}
use Rattle.posix_mode_laws.specs.Sides.{PosixWorld, Sides}

-- a run that is staged, as an entry: of its file and its staging file as the batch has them, with the length that the file has in memory
abbrev pub draft_of_run : Volume → Files → ℕ → Run → Draft
draft_of_run v files ino r =
    record {
      count = r.count;
      order = r.order;
      ino = ino;
      generation = (inode v ino).generation;
      file_block = r.file_block;
      staging = r.staging;
      staging_block = r.staging_block;
      staging_generation = (inode v r.staging).generation;
      size = size_in files ino;
    }

-- all that are staged, file by file, in the order of laying
abbrev pub staged_of : Volume → Files → List Draft
staged_of v files = flat_map (λ (ino : ℕ). map (draft_of_run v files ino) (runs_in files ino)) (range_with_len 0 (length files.sizes))

-- entries as claims, in slots that no one looks at
abbrev pub as_claims : List Draft → List (ℕ × Draft)
as_claims ds = map (λ (d : Draft). (0, d)) ds

-- the committed volume and the batch of K-Split, with what is kept of files
abbrev pub sides_of : View → Files → List ℕ → List ℕ → Sides
sides_of k files old numbers = record { committed = k.committed; committed_numbers = old; batch = k.volume; numbers = numbers; staged = staged_of k.volume files; lengths = files.sizes }

-- THE DEVICE IN POSIX MODE, after a history, whatever the staging and the open files keep: K-Split gathers and is in order; whatever it is
-- found as, its committed volume stands for a front of the history, cut to published lengths, its batch for all of it, cut likewise, and
-- the batch with the lengths in memory and the staged runs for the state of the calls; each run that is staged would be live as an
-- entry. What the medium and the state hold leaves the reserve, and nothing is lent but log lines.
pub record PosixGoing (g : Geometry) (k : View) (files : Files) (count : ℕ) (numbers : List ℕ) (start : State) (history : List Item) : Type 0 where
  pub mode : start.mode ≡ Mode.Posix
  pub order : IsInOrder k
  pub batched : k.batched ≡ true
  pub on : k.lost ≡ false
  pub geometry : k.volume.geometry ≡ g
  pub is_geometry : IsGeometry g
  pub publishing : IsPublishing (run start history)
  pub fits : Fits (run start history)
  pub shape : HasShape k.volume (run start history)
  pub blocks : start.shape.data_blocks ≡ data_blocks g
  pub quiet : IsQuietBeside g k.cells
  pub home : (i : ℕ) → is_lent (cell k.cells i) ≡ true → IsOut k.volume [] i
  pub sizes : length files.sizes ≡ length k.volume.inodes
  pub bare : (ino : ℕ) → (inode k.volume ino).kind ≢ File → (runs_in files ino ≡ []) × (size_in files ino ≡ 0)
  pub alive : (d : Draft) → In d (staged_of k.volume files) → is_live k.volume d ≡ true
  pub aged : AreAged k.volume (as_claims (staged_of k.volume files)) count
  pub spare : reserve g ≤ unused_blocks k.volume + 3
  pub front : List Item
  pub later : List Item
  pub history_is : history ≡ front ++ later
  pub old_numbers : List ℕ
  pub world : (image : Words) → IsImage k.cells image → PosixWorld LastBeforeCut (sides_of k files old_numbers numbers) (journaled image) start front later
  pub headed : (image : Words) → IsImage k.cells image → IsHeaded g image
  pub fits_front : Fits (run start front)
  pub shape_front : HasShape k.committed (run start front)
  pub free : HasFreeBlocks k.committed [] []
