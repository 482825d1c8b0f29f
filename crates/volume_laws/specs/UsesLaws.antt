-- The chief laws of the uses of blocks, each as one statement.
use Rattle.std.specs.Prelude.{◌≡◌, ◌≢◌, ℕ, ◌+◌, ◌<◌, ◌≤◌, true, List, length, All, Some}
use Rattle.image_model.specs.pm_model.Words.{Words}
use Rattle.image_model.specs.layout_model.Journal.{journaled}
use Rattle.image_model.specs.layout_model.Places.{Geometry, data_blocks, reserve, is_data_block}
use Rattle.image_model.specs.extent_model.declared.extent_words.Extent.{Extent}
use Rattle.image_model.specs.extent_model.Extents.{disk_at, covers}
use Rattle.image_model.specs.layout_model.declared.lines.Inode.{Inode}
use Rattle.image_model.specs.Content.{content}
use Rattle.image_model.specs.Live.{live_entries}
use Rattle.image_model.specs.Placed.{block_at, IsOutside}
use Rattle.image_model.specs.Reading.{Reads, inode_set}
use Rattle.image_model.specs.Room.{unused_blocks}
use Rattle.image_model.specs.Rules.{IsInData, IsNamedOnce}
use Rattle.image_model.specs.Uses.{uses_by, owners}
use Rattle.image_model.specs.Volume.{Volume, chain, extents}
use Rattle.volume_laws.specs.Reading.{AreUnchained}
use Rattle.volume_laws.specs.OwnerLaws.{IsOnePlace}
use Rattle.volume_laws.specs.PoolLaws.{AreInData}
use Rattle.volume_laws.specs.Staged.{AreStaged, IsStagedElsewhere}
use Rattle.volume_laws.specs.Uses.{uses_of, blocks_held, is_unused, HasAllMaps, Freed}

-- a change of one inode's chain and map takes its old uses of a block and adds the new ones
abbrev pub CountsUses : Type 0
CountsUses =
    (v : Volume) (ino : ℕ) (x : Inode) (blocks : List ℕ) (es : List Extent) (b : ℕ) → ino < length v.inodes
    → HasAllMaps v
    → length (owners (inode_set ino x blocks es v) b) + uses_of v b ino ≡ length (owners v b) + length (uses_by ino blocks es b)

-- blocks stay named once where what the inode has now is what it had, or was used by nobody
abbrev pub StaysNamedOnce : Type 0
StaysNamedOnce =
    (v : Volume) (ino : ℕ) (x : Inode) (blocks : List ℕ) (es : List Extent) → ino < length v.inodes → HasAllMaps v
    → ((b : ℕ) → is_data_block v.geometry b ≡ true → length (uses_by ino blocks es b) + length (owners v b) ≤ 1 + uses_of v b ino)
    → (b : ℕ) → is_data_block v.geometry b ≡ true → IsNamedOnce (inode_set ino x blocks es v) b

-- which blocks are free then
abbrev pub TellsFreed : Type 0
TellsFreed =
    (v : Volume) (ino : ℕ) (x : Inode) (blocks : List ℕ) (es : List Extent) → ino < length v.inodes → HasAllMaps v
    → Freed v ino blocks es (inode_set ino x blocks es v)

-- a block that is named once is the block of one file block of one inode, and of no chain
abbrev pub HasOneOwner : Type 0
HasOneOwner =
    (v : Volume) (b i j m n : ℕ) → IsNamedOnce v b → i < length v.inodes → j < length v.inodes
    → disk_at (extents v i) m ≡ Some b → disk_at (extents v j) n ≡ Some b → IsOnePlace i j m n

abbrev pub IsInNoChain : Type 0
IsInNoChain =
    (v : Volume) (b i j k : ℕ) → IsNamedOnce v b → i < length v.inodes → j < length v.inodes
    → covers (extents v i) b ≡ true → k < length (chain v j) → block_at (chain v j) k ≢ b

-- each data block is free, or one that an inode has; and free blocks are in no chain
abbrev pub CountsFree : Type 0
CountsFree =
    (v : Volume) (limit : ℕ → ℕ) → AreInData v limit → ((b : ℕ) → is_data_block v.geometry b ≡ true → IsNamedOnce v b)
    → unused_blocks v + blocks_held v ≡ data_blocks v.geometry

abbrev pub FreeIsUnchained : Type 0
FreeIsUnchained =
    (v : Volume) (blocks : List ℕ) → length v.inodes ≡ v.geometry.inodes → All (λ b. is_unused v b ≡ true) blocks
    → AreUnchained v.geometry v blocks

-- the reserve has room for the chain of any inode, and for three blocks more
abbrev pub FitsReserve : Type 0
FitsReserve =
    (g : Geometry) (f : Words) (v : Volume) (limit ino : ℕ) → Reads g f v → ino < g.inodes
    → All (IsInData g limit) (extents v ino)
    → ((b : ℕ) → is_data_block g b ≡ true → IsNamedOnce v b) → length (chain v ino) + 3 ≤ reserve g

-- blocks of a staging file that no live entry tells of are read by no file: the content is as before, whatever is there
abbrev pub HasContentBesideStaged : Type 0
HasContentBesideStaged =
    (g : Geometry) (v : Volume) (staging from : ℕ) (blocks : List ℕ) (before image : Words)
    → Reads g (journaled before) v
    → ((b : ℕ) → is_data_block v.geometry b ≡ true → IsNamedOnce v b) → AreStaged v staging from blocks
    → All (IsStagedElsewhere v staging from (length blocks)) (live_entries v (journaled before))
    → ((i : ℕ) → IsOutside blocks i → image i ≡ before i)
    → content g image ≡ content g before
