-- Which free blocks a change takes, and an inode that goes over to a map.
use Rattle.std.specs.Prelude.{◌≡◌, ◌<◌, ℕ, ◌==◌, Bool, true, false, List, length, All, AllPairs}
use Rattle.std.specs.List.{list_any}
use Rattle.image_model.specs.extent_model.declared.extent_words.Extent.{Extent}
use Rattle.image_model.specs.layout_model.declared.lines.Inode.{Inode}
use Rattle.image_model.specs.Chains.{first_or_zero}
use Rattle.image_model.specs.Reading.{inode_set}
use Rattle.image_model.specs.Volume.{Volume}

-- The blocks are the n lowest that pass the test, in rising order.
pub record AreLowest (free : ℕ → Bool) (n : ℕ) (blocks : List ℕ) : Type 0 where
  pub count : length blocks ≡ n
  pub rising : AllPairs ◌<◌ blocks
  pub were_free : All (λ b. free b ≡ true) blocks
  pub lowest : (b : ℕ) → free b ≡ true → list_any (λ t. t == b) blocks ≡ false → All (λ t. t < b) blocks

-- the inode with this map, whose chain stands in these blocks
abbrev pub with_map : List ℕ → List Extent → Inode → Inode
with_map blocks es x = record x { root = first_or_zero blocks; extents = length es }

-- The inode has this line, this chain and this map; all else is as before.
abbrev pub switched : ℕ → Inode → List ℕ → List Extent → Volume → Volume
switched ino x blocks es v = inode_set ino (with_map blocks es x) blocks es v
