-- Plans: a change sets lines, which a batch has, and may put new maps into free blocks before. What the lines make of a
-- volume.
use Rattle.std.specs.Prelude.{◌≡◌, ℕ, ◌*◌, ◌<◌, List, [], length, All, true, slice_index_or}
use Rattle.std.specs.List.{flat_map}
use Rattle.k_inodes.specs.pm_model.Words.{Words}
use Rattle.k_inodes.specs.layout_model.Places.{Geometry, is_data_block, is_journaled_line}
use Rattle.volume_change_laws.specs.k_split_model.extent_model.declared.extent_words.Extent.{Extent}
use Rattle.k_inodes.specs.layout_model.declared.lines.Inode.{Inode}
use Rattle.volume_change_laws.specs.k_split_model.image_model.Chains.{first_or_zero}
use Rattle.volume_change_laws.specs.k_split_model.image_model.Reading.{Reads}
use Rattle.volume_change_laws.specs.k_split_model.image_model.Standing.{IsChain}
use Rattle.volume_change_laws.specs.k_split_model.image_model.Volume.{Volume, inode, chain, extents}
use Rattle.k_journal.specs.Batch.{with_batch, AllLines}
use Rattle.k_journal.specs.declared.batches.Record.{Record}

-- a new map, and the blocks that its chain takes
pub record NewChain : Type 0 where
  pub blocks : List ℕ
  pub extents : List Extent

abbrev pub no_new : NewChain
no_new = record { blocks = []; extents = [] }

-- new map k; past the last one none
abbrev pub new_at : List NewChain → ℕ → NewChain
new_at news k = slice_index_or news k no_new

-- the blocks of all of them
abbrev pub blocks_of : List NewChain → List ℕ
blocks_of news = flat_map (λ (c : NewChain). c.blocks) news

-- the map stands in data blocks of the words
pub record HasNew (g : Geometry) (f : Words) (c : NewChain) : Type 0 where
  pub is_chain : IsChain f (512 * g.blocks) (first_or_zero c.blocks) (length c.extents) c.blocks c.extents
  pub in_data : All (λ b. is_data_block g b ≡ true) c.blocks

abbrev pub HasAllNew : Geometry → List NewChain → Words → Type 0
HasAllNew g news f = (k : ℕ) → k < length news → HasNew g f (new_at news k)

-- where the blocks of a chain come from: there are none, an inode of the volume had them, or a new map has them
pub data IsChainFrom (news : List NewChain) (v : Volume) (blocks : List ℕ) : Type 0 where
  NoBlocks : blocks ≡ [] → IsChainFrom news v blocks
  OldBlocks : (i : ℕ) → blocks ≡ chain v i → IsChainFrom news v blocks
  NewBlocks : (k : ℕ) → k < length news → blocks ≡ (new_at news k).blocks → IsChainFrom news v blocks

-- The lines make of words that read as v, with the new maps in their blocks, words that read as w. They are journaled
-- lines, and each chain of w is one of v's or one of a new map.
pub record Turns (g : Geometry) (news : List NewChain) (v w : Volume) (b : List Record) : Type 0 where
  pub lines : AllLines (is_journaled_line g) b
  pub reads : (f : Words) → HasAllNew g news f → Reads g f v → Reads g (with_batch b f) w
  pub chains : (ino : ℕ) → IsChainFrom news v (chain w ino)

-- Where the map of an inode that is set comes from: it has none, the one that it had, or a new one.
pub data IsMapFrom (news : List NewChain) (w : Volume) (ino : ℕ) (x : Inode) (blocks : List ℕ) (es : List Extent) : Type 0 where
  NoMap : x.root ≡ 0 → x.extents ≡ 0 → blocks ≡ [] → es ≡ [] → IsMapFrom news w ino x blocks es
  SameMap : x.root ≡ (inode w ino).root → x.extents ≡ (inode w ino).extents → blocks ≡ chain w ino → es ≡ extents w ino → IsMapFrom news w ino x blocks es
  NewMap : (k : ℕ) → k < length news → x.root ≡ first_or_zero (new_at news k).blocks → x.extents ≡ length (new_at news k).extents → blocks ≡ (new_at news k).blocks → es ≡ (new_at news k).extents → IsMapFrom news w ino x blocks es
