-- Who uses a data block: the list of its uses, one for each time that a chain or an extent names it.
use Rattle.std.specs.Prelude.{◌≡◌, ℕ, ◌+◌, ◌-◌, ◌==◌, List, [], ◌++◌, length, map, filter, slice_index}
use Rattle.std.specs.List.{flat_map, range_with_len}
use Rattle.extent_model.specs.declared.extent_words.Extent.{Extent}
use Rattle.extent_model.specs.Extents.{holds_disk}
use Rattle.image_model.specs.Volume.{Volume, chain, extents}

-- A block of the chain of an inode, by its place there from 0 on, or the block of one of its file blocks. The two
-- numbers tell the one use that a block of a sound image has.
pub data Use : Type 0 where
  InChain : ℕ → ℕ → Use
  Holds : ℕ → ℕ → Use

-- the places at which a block stands in a chain, rising
abbrev pub places_in : List ℕ → ℕ → List ℕ
places_in blocks b = filter (λ k. slice_index blocks k == b) (range_with_len 0 (length blocks))

abbrev pub uses_by : ℕ → List ℕ → List Extent → ℕ → List Use
uses_by ino blocks es b =
    map (λ k. InChain ino k) (places_in blocks b) ++ map (λ e. Holds ino (e.file + (b - e.disk))) (filter (λ e. holds_disk e b) es)

unfoldable pub owners : Volume → ℕ → List Use
owners v b = flat_map (λ ino. uses_by ino (chain v ino) (extents v ino) b) (range_with_len 0 (length v.inodes))

-- nothing names the block
abbrev pub IsUnused : Volume → ℕ → Type 0
IsUnused v b = owners v b ≡ []
