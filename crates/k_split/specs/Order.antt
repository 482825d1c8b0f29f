-- When K-Split is in order.
use Rattle.std.specs.Prelude.{◌≡◌, ◌≤◌, ◌<◌, ℕ, ◌/◌, Bool, true, false, if◌then◌else◌, List, [], length}
use Rattle.block_io.specs.pm_model.declared.Cell.{Cell}
use Rattle.block_io.specs.pm_model.Cells.{cell, is_lent, is_single}
use Rattle.block_io.specs.pm_model.Images.{words_of}
use Rattle.block_io.specs.layout_model.Journal.{journaled}
use Rattle.block_io.specs.layout_model.Places.{Geometry, is_data_block, is_journaled_line}
use Rattle.block_io.specs.extent_model.Extents.{covers}
use Rattle.block_io.specs.image_model.Volume.{Volume, extents, volume}
use Rattle.k_group_commit.specs.Gathered.{IsCovered, IsOpen, IsUnchained}
use Rattle.k_map_plans.specs.block_pool.FreeSets.{is_among}
use Rattle.k_map_plans.specs.k_journal.Batch.{lines_of}
use Rattle.k_map_plans.specs.k_journal.declared.batches.Record.{Record}
use Rattle.k_map_plans.specs.k_plans.View.{TablesView}
use Rattle.k_map_plans.specs.k_plans.Whole.{HasFullMaps, IsWhole}
use Rattle.k_map_plans.specs.volume_laws.Uses.{is_unused}
use Rattle.k_tables.specs.k_split_model.Stands.{Stands}
use Rattle.k_tables.specs.k_split_model.View.{View}

-- the volume that the words of the cells read as
abbrev pub standing : Geometry → List Cell → Volume
standing g cells = volume g (journaled (words_of cells))

-- What contracts see of tables, the lines that gathered and a device. Where changes do not gather, each is committed at its return,
-- and the volume of the tables is that of the device.
abbrev pub view_of : TablesView → List Record → List Cell → Bool → Bool → View
view_of tables group cells batched lost =
    record {
      volume = tables.volume;
      committed = if batched then standing tables.volume.geometry cells else tables.volume;
      waiting = tables.waiting;
      lines = lines_of group;
      cells = cells;
      batched = batched;
      lost = lost;
    }

-- no staging file, inodes 1 to 4, has the block
abbrev pub IsUnstaged : Volume → ℕ → Type 0
IsUnstaged v b = (ino : ℕ) → 1 ≤ ino → ino ≤ 4 → covers (extents v ino) b ≡ false

-- Each word of a data block that no staging file has has one candidate: so free blocks and those of files may be stored into.
-- A block of a staging file may be lent, or have two candidates.
abbrev pub IsUnstagedSingle : Volume → List Cell → Type 0
IsUnstagedSingle v d =
    (i : ℕ) → is_data_block v.geometry (i / 512) ≡ true → IsUnstaged v (i / 512) → is_single (cell d i) ≡ true

-- In order: the device stands at the volume that was committed last; it and the present one keep the rules, and are of one image.
-- Each chain of the present one is as long as its map takes.
-- Blocks that wait are unused in the present volume, and free blocks in both: so a block that came free in the open batch is used by
-- nothing before its commit. A block that a map of the present volume has is in no chain of the committed one. The batch sets at
-- most 128 journaled lines; with none, both volumes are one, and no block waits. Data blocks are single but for those of staging
-- files. Where changes do not gather the batch is always empty.
pub record IsInOrder (k : View) : Type 0 where
  pub stands : Stands k.committed.geometry k.committed k.cells
  pub whole : IsWhole k.volume
  pub full : HasFullMaps k.volume
  pub committed : IsWhole k.committed
  pub geometry : k.volume.geometry ≡ k.committed.geometry
  pub waits : (b : ℕ) → is_among k.waiting b ≡ true → is_unused k.volume b ≡ true
  pub unused : (b : ℕ) → is_unused k.volume b ≡ true → is_among k.waiting b ≡ false → is_unused k.committed b ≡ true
  pub unchained : (b : ℕ) → IsCovered k.volume b → IsUnchained k.committed b
  pub journaled : (line : ℕ) → is_among k.lines line ≡ true → is_journaled_line k.volume.geometry line ≡ true
  pub few : length k.lines ≤ 128
  pub empty : k.lines ≡ [] → (k.committed ≡ k.volume) × (k.waiting ≡ [])
  pub settled : k.batched ≡ false → k.committed ≡ k.volume
  pub none_waits : k.batched ≡ false → k.waiting ≡ []
  pub none_set : k.batched ≡ false → k.lines ≡ []
  pub unstaged : IsUnstagedSingle k.volume k.cells

-- The words of the device read as the same volume whatever comes back where words are lent.
pub record IsSteady (g : Geometry) (d : List Cell) : Type 0 where
  pub stays : (e : List Cell) → ((i : ℕ) → is_lent (cell d i) ≡ false → cell e i ≡ cell d i) → standing g e ≡ standing g d

-- ---- what K-Split keeps between changes

-- The tables t are ahead of the device, by the lines of the group: it is empty where nothing gathered, and always where changes do
-- not gather. No line of a change is planned.
pub record IsReady (t : TablesView) (group b : List Record) (d : List Cell) (batched : Bool) : Type 0 where
  pub committed : Volume
  pub opened : IsOpen committed t group d
  pub unstaged : IsUnstagedSingle t.volume d
  pub few : length group ≤ 128
  pub empty : group ≡ [] → (committed ≡ t.volume) × (t.waiting ≡ [])
  pub unbatched : batched ≡ false → group ≡ []
  pub no_lines : b ≡ []

-- what it is where nothing gathered: the device stands at the volume of the tables
pub record IsPlain (t : TablesView) (d : List Cell) : Type 0 where
  pub stands : Stands t.volume.geometry t.volume d
  pub whole : IsWhole t.volume
  pub none_waits : t.waiting ≡ []
  pub none_aside : t.aside ≡ []
  pub unstaged : IsUnstagedSingle t.volume d

-- what contracts see then, where changes do not gather
abbrev pub plain_view : TablesView → List Cell → Bool → View
plain_view t d lost =
    record { volume = t.volume; committed = t.volume; waiting = t.waiting; lines = []; cells = d; batched = false; lost = lost }

-- K-Split as it is opened on these cells, at this volume
pub record IsOpened (cells : List Cell) (v : Volume) (batched : Bool) (k : View) : Type 0 where
  pub order : IsInOrder k
  pub volume_is : k.volume ≡ v
  pub cells_are : k.cells ≡ cells
  pub batched_is : k.batched ≡ batched
  pub on : k.lost ≡ false
