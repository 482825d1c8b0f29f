-- When words read as a volume, line by line, and the volume with one line or one map changed.
use Rattle.std.specs.Prelude.{◌≡◌, ℕ, ◌+◌, ◌*◌, ◌<◌, List, length, All, true, Option, Some, None, slice_set, slice_index}
use Rattle.layout_model.specs.pm_model.Words.{Words}
use Rattle.layout_model.specs.Fields.{zeros}
use Rattle.layout_model.specs.Places.{Geometry, base_word, is_data_block}
use Rattle.extent_model.specs.declared.extent_words.Extent.{Extent}
use Rattle.layout_model.specs.declared.lines.Inode.{Inode}
use Rattle.layout_model.specs.Lines.{NameRow, NameSlot, FreeName, Named, encode_name}
use Rattle.layout_model.specs.Names.{row}
use Rattle.image_model.specs.Standing.{IsChain}
use Rattle.image_model.specs.Volume.{Volume, inode_at, name_at, inode, chain, extents}

-- the slot and the line of a row
abbrev pub slot_for : Option NameRow → NameSlot
slot_for None = FreeName
slot_for (Some r) = Named r

abbrev pub row_bytes : Option NameRow → List ℕ
row_bytes None = zeros 64
row_bytes (Some r) = encode_name r

-- a chain of an inode that stands in data blocks, or none
pub record StandsFor (g : Geometry) (f : Words) (x : Inode) (blocks : List ℕ) (es : List Extent) : Type 0 where
  pub is_chain : IsChain f (512 * g.blocks) x.root x.extents blocks es
  pub in_data : All (λ b. is_data_block g b ≡ true) blocks

-- The words read as the volume, line by line: the line of the log base has it and zeros, each inode line and each
-- name line is one, and each inode's chain stands in data blocks. So more is said than that the volume of the words
-- is this one, where a line that is none counts as free.
pub record Reads (g : Geometry) (f : Words) (v : Volume) : Type 0 where
  pub geometry : v.geometry ≡ g
  pub base : v.base ≡ f base_word
  pub state : (w : ℕ) → base_word < w → w < base_word + 8 → f w ≡ 0
  pub inode_count : length v.inodes ≡ g.inodes
  pub name_count : length v.names ≡ g.names
  pub chain_count : length v.chains ≡ g.inodes
  pub map_count : length v.maps ≡ g.inodes
  pub inodes : (ino : ℕ) → ino < g.inodes → inode_at f ino ≡ Some (inode v ino)
  pub names : (k : ℕ) → k < g.names → name_at g f k ≡ slot_for (row v.names k)
  pub chains : (ino : ℕ) → ino < g.inodes → IsChain f (512 * g.blocks) (inode v ino).root (inode v ino).extents (chain v ino) (extents v ino)
  pub blocks : (ino : ℕ) → ino < g.inodes → All (λ b. is_data_block g b ≡ true) (chain v ino)

-- the volume with another inode, its chain and its map; with another inode and the same map; with another row; with
-- another log base
abbrev pub inode_set : ℕ → Inode → List ℕ → List Extent → Volume → Volume
inode_set ino x blocks es v =
    record v { inodes = slice_set v.inodes ino x; chains = slice_set v.chains ino blocks; maps = slice_set v.maps ino es }

abbrev pub node_set : ℕ → Inode → Volume → Volume
node_set ino x v = record v { inodes = slice_set v.inodes ino x }

abbrev pub row_set : ℕ → Option NameRow → Volume → Volume
row_set k r v = record v { names = slice_set v.names k r }

abbrev pub base_set : ℕ → Volume → Volume
base_set base v = record v { base = base }

-- the bytes of a line, each a byte
pub record AreBytes (bytes : List ℕ) : Type 0 where
  pub size : length bytes ≡ 64
  pub small : (k : ℕ) → slice_index bytes k < 256
