-- What contracts see of the tables in memory.
use Rattle.std.specs.Prelude.{ℕ, List, Option, Some, None, if◌then◌else◌}
use Rattle.std.specs.List.{flat_map, range_with_len}
use Rattle.layout_model.specs.Places.{Geometry}
use Rattle.k_tables.specs.extent_model.declared.extent_words.Extent.{Extent}
use Rattle.layout_model.specs.declared.lines.Inode.{Inode}
use Rattle.layout_model.specs.Names.{Rows}
use Rattle.k_tables.specs.image_model.Volume.{Volume, inode}
use Rattle.k_tables.specs.k_split_model.Spaces.{is_free}

-- The volume of the tables; the blocks that are set aside for the change that is planned, or came free in it; and those that
-- wait for a commit: they came free in changes that gather and are not on the device yet.
pub record TablesView : Type 0 where
  pub volume : Volume
  pub aside : List ℕ
  pub waiting : List ℕ

-- the tables one by one
abbrev pub tables_view : Geometry → ℕ → List Inode → Rows → List (List ℕ) → List (List Extent) → List ℕ → List ℕ → TablesView
tables_view geometry base inodes names chains maps aside waiting =
    record {
      volume = record { geometry = geometry; base = base; inodes = inodes; names = names; chains = chains; maps = maps };
      aside = aside;
      waiting = waiting;
    }

-- the disk blocks of the extents of a map, one after the other
abbrev pub map_blocks : List Extent → List ℕ
map_blocks es = flat_map (λ (e : Extent). range_with_len e.disk e.count) es

-- the tables with another volume, and the same blocks that are set aside and that wait
abbrev pub with_volume : Volume → TablesView → TablesView
with_volume v t = record t { volume = v }

-- the inode of a node or of a staging file; none where the line is free, and past the last one
abbrev pub node_at : Volume → ℕ → Option Inode
node_at v ino = if is_free (inode v ino).kind then None else Some (inode v ino)
