-- The bytes of files, each in the map of its own, after some of one file were written over in place.
use Rattle.std.specs.Prelude.{◌≡◌, ◌⊎◌, ◌<◌, ◌≤◌, ◌+◌, ◌-◌, ◌/◌, ℕ, List, length, Some, slice_index}
use Rattle.k_split.specs.block_io.pm_model.Words.{Words}
use Rattle.k_split.specs.block_io.Overwrites.{IsOverwritten, IsOverwrittenWhole}
use Rattle.k_split.specs.block_io.extent_model.Extents.{disk_at}
use Rattle.k_split.specs.block_io.image_model.Content.{byte_in}
use Rattle.k_split.specs.block_io.image_model.Kept.{AreKept}
use Rattle.k_split.specs.block_io.image_model.Volume.{extents, Volume}
use Rattle.log_laws.specs.world_write_laws.name_laws.KeptLaws.{HasAllLines}

-- byte p of an inode, where the words are these; 0 of a hole
abbrev pub own_byte : Volume → Words → ℕ → ℕ → ℕ
own_byte v f ino p = byte_in f (disk_at (extents v ino) (p / 4096)) p

-- Each byte of the range of the file is the old one or the new one, and each other byte of an inode is as before.
pub record HasOldOrNewBytes (v : Volume) (ino first : ℕ) (bytes : List ℕ) (before image : Words) : Type 0 where
  pub each : (p : ℕ) → first ≤ p → p < first + length bytes
      → (own_byte v image ino p ≡ own_byte v before ino p) ⊎ (own_byte v image ino p ≡ slice_index bytes (p - first))
  pub behind : (p : ℕ) → first + length bytes ≤ p → own_byte v image ino p ≡ own_byte v before ino p
  pub ahead : (p : ℕ) → p < first → own_byte v image ino p ≡ own_byte v before ino p
  pub others : (i p : ℕ) → i < length v.inodes → ¬ (i ≡ ino) → own_byte v image i p ≡ own_byte v before i p

-- an image after a write in place or a part of it has such bytes
abbrev pub WritesOldOrNew : Type 0
WritesOldOrNew =
    (v : Volume) (ino first : ℕ) (bytes : List ℕ) (before image : Words) → AreKept v → HasAllLines v → ino < length v.inodes
    → IsOverwritten (extents v ino) first bytes before image → HasOldOrNewBytes v ino first bytes before image

-- and after the whole write each byte of the range that has a disk block is the new one
abbrev pub WritesAll : Type 0
WritesAll =
    (v : Volume) (ino first : ℕ) (bytes : List ℕ) (before image : Words) (p b : ℕ)
    → IsOverwrittenWhole (extents v ino) first bytes before image → first ≤ p → p < first + length bytes
    → disk_at (extents v ino) (p / 4096) ≡ Some b → own_byte v image ino p ≡ slice_index bytes (p - first)
