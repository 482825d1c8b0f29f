-- What is read of the chains of inodes.
use Rattle.std.specs.Prelude.{◌≡◌, ℕ, ◌<◌, List, [], length, slice_index_or}
use Rattle.k_inodes.specs.image_layout.pm_model.Words.{Words}
use Rattle.block_pool.specs.extent_model.declared.extent_words.Extent.{Extent}
use Rattle.k_inodes.specs.layout_model.declared.lines.Inode.{Inode}
use Rattle.map_chain.specs.image_model.Standing.{IsChain, HasNoChain}
use Rattle.map_chain.specs.image_model.Volume.{free_inode}

-- the chain of an inode and its map are those that stand in the words, and empty where none stands
pub record IsFound (f : Words) (size : ℕ) (x : Inode) (blocks : List ℕ) (es : List Extent) : Type 0 where
  pub found : (bs : List ℕ) (fs : List Extent) → IsChain f size x.root x.extents bs fs → (blocks ≡ bs) × (es ≡ fs)
  pub none : HasNoChain f size x.root x.extents → (blocks ≡ []) × (es ≡ [])

-- so it is of the first n inodes
pub record AreFound (f : Words) (size : ℕ) (inodes : List Inode) (n : ℕ) (chains : List (List ℕ)) (maps : List (List Extent))
    : Type 0 where
  pub chain_count : length chains ≡ n
  pub map_count : length maps ≡ n
  pub each : (ino : ℕ) → ino < n
      → IsFound f size (slice_index_or inodes ino free_inode) (slice_index_or chains ino []) (slice_index_or maps ino [])
