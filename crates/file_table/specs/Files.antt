-- What contracts see of a file table.
use Rattle.std.specs.Prelude.{◌≡◌, ◌≢◌, ◌≤◌, ◌^◌, ℕ, All, List, [], length, slice_index, slice_index_or, slice_set, sum_by}
use Rattle.block_counts.specs.Counts.{held_by}
use Rattle.layout_model.specs.block_counts.declared.TheConstants.{LONGEST_FILE}
use Rattle.file_overlay.specs.declared.runs.Run.{Run}
use Rattle.file_overlay.specs.Runs.{Overlaid}

-- of each inode line what is staged, and the size
pub record Files : Type 0 where
  pub overlays : List Overlaid
  pub sizes : List ℕ

-- no run, and no room for one
abbrev pub nothing_laid : Overlaid
nothing_laid = record { runs = []; spare = 0 }

-- the runs that are staged of a file, and how much room is spare for more
abbrev pub runs_in : Files → ℕ → List Run
runs_in t ino = (slice_index_or t.overlays ino nothing_laid).runs

abbrev pub spare_in : Files → ℕ → ℕ
spare_in t ino = (slice_index_or t.overlays ino nothing_laid).spare

-- the size of a file by what is staged
abbrev pub size_in : Files → ℕ → ℕ
size_in t ino = slice_index t.sizes ino

-- A table: an overlay and a size a line, at most 2^32 lines, sizes that a file may have, and the sum of what they hold.
pub record IsFileTable (overlays : List Overlaid) (sizes : List ℕ) (held : ℕ) : Type 0 where
  pub same : length overlays ≡ length sizes
  pub few : length sizes ≤ 2 ^ 32
  pub small : All (λ size. size ≤ LONGEST_FILE) sizes
  pub held_is : held ≡ sum_by held_by sizes

-- so many lines, of which nothing is kept
pub record AreEmpty (count : ℕ) (t : Files) : Type 0 where
  pub count_is : length t.sizes ≡ count
  pub sizes : (ino : ℕ) → size_in t ino ≡ 0
  pub runs : (ino : ℕ) → runs_in t ino ≡ []

-- A file has these runs and this size, and no other line changes, nor the room that is spare there.
pub record ChangesFile (ino : ℕ) (runs : List Run) (size : ℕ) (old new : Files) : Type 0 where
  pub sizes : new.sizes ≡ slice_set old.sizes ino size
  pub runs_are : runs_in new ino ≡ runs
  pub others : (other : ℕ) → other ≢ ino → runs_in new other ≡ runs_in old other
  pub spares : (other : ℕ) → other ≢ ino → spare_in new other ≡ spare_in old other
