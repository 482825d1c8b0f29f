-- The content of the images of a change.
use Rattle.std.specs.Prelude.{◌≡◌, ◌⊎◌, ◌<◌, ℕ, List, [], length, All, true, false}
use Rattle.block_io.specs.pm_model.declared.Cell.{Cell}
use Rattle.block_io.specs.pm_model.Images.{Follows}
use Rattle.block_io.specs.pm_model.Words.{Words}
use Rattle.block_io.specs.layout_model.Journal.{journaled}
use Rattle.block_io.specs.layout_model.Places.{Geometry}
use Rattle.block_io.specs.extent_model.Extents.{covers}
use Rattle.block_io.specs.image_model.Content.{content, found}
use Rattle.block_io.specs.image_model.Kept.{AreKept}
use Rattle.block_io.specs.image_model.Live.{live_entries}
use Rattle.block_io.specs.image_model.Placed.{block_at}
use Rattle.block_io.specs.image_model.Volume.{extents, Volume}
use Rattle.k_map_plans.specs.volume_laws.Uses.{is_unused}
use Rattle.k_tables.specs.k_split_model.Stands.{IsOldOrNew, Stands}

-- The content of the image is that of the image before, or what w makes of the words before.
abbrev pub HasOldOrNew : Geometry → Volume → Words → Words → Type 0
HasOldOrNew g w before image =
    (content g image ≡ content g before) ⊎ (content g image ≡ found w (live_entries w (journaled before)) (journaled before))

-- The blocks that a change writes are its own: no inode of v has one of them, and no map of w. They are for chains of w.
pub record AreOwnBlocks (v w : Volume) (blocks : List ℕ) : Type 0 where
  pub unused : All (λ b. is_unused v b ≡ true) blocks
  pub unmapped : (ino k : ℕ) → k < length blocks → covers (extents w ino) (block_at blocks k) ≡ false

-- So it is of each image of a device that stood at v, after a change to w or a part of it, whatever blocks of its own the
-- change wrote.
abbrev pub HaveOldOrNew : Type 0
HaveOldOrNew =
    (g : Geometry) (blocks : List ℕ) (v w : Volume) (old new : List Cell) → Stands g v old → AreKept v → AreKept w → AreOwnBlocks v w blocks
    → Follows (IsOldOrNew g blocks v w) old new → Follows (HasOldOrNew g w) old new

-- A change that writes no blocks has none of its own.
abbrev pub HasNoBlocks : Type 0
HasNoBlocks = (v w : Volume) → AreOwnBlocks v w []
