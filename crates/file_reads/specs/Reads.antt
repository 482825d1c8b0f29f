-- The bytes of a file with staged runs, and which blocks a read looks at.
use Rattle.std.specs.Prelude.{◌≡◌, ℕ, ◌/◌, ◌<◌, List, length, map, Option, Some, None}
use Rattle.std.specs.List.{range_with_len}
use Rattle.k_split.specs.pm_model.declared.Cell.{Cell}
use Rattle.k_split.specs.pm_model.Words.{Words}
use Rattle.data_route.specs.extent_model.Extents.{disk_at}
use Rattle.k_split.specs.image_model.Content.{byte_in}
use Rattle.k_split.specs.image_model.Placed.{BlockIsHome}
use Rattle.k_split.specs.image_model.Volume.{extents, Volume}
use Rattle.file_overlay.specs.declared.runs.Run.{Run}
use Rattle.data_route.specs.declared.reads.Piece.{Piece}
use Rattle.data_route.specs.declared.reads.Source.{Source}
use Rattle.data_route.specs.declared.reads.Source.TheVariants.{Disk, Staged, Zero}
use Rattle.data_route.specs.Reads.{source_of}

-- the disk block of what has a file block: a staged block is one of the map of its staging file
abbrev pub block_of : Volume → Source → Option ℕ
block_of v (Disk b) = Some b
block_of v (Staged staging block) = disk_at (extents v staging) block
block_of v Zero = None

-- the disk block of a file block of an inode with these staged runs, none for a hole
abbrev pub block_in : Volume → List Run → ℕ → ℕ → Option ℕ
block_in v runs ino block = block_of v (source_of runs (extents v ino) block)

-- THE BYTES OF A READ: so many bytes of the file, from one on
abbrev pub bytes_in : Volume → Words → List Run → ℕ → ℕ → ℕ → List ℕ
bytes_in v f runs ino first count = map (λ i. byte_in f (block_in v runs ino (i / 4096)) i) (range_with_len first count)

-- the bytes of a piece
abbrev pub bytes_of_piece : Volume → Words → Piece → List ℕ
bytes_of_piece v f piece = map (λ i. byte_in f (block_of v piece.source) i) (range_with_len piece.at piece.len)

-- The block lies in the device, and no word of it is lent.
pub record IsReadable (d : List Cell) (block : ℕ) : Type 0 where
  pub inside : block < length d / 512
  pub home : BlockIsHome block d

-- What has a block can be read: it names an inode of the volume, and its disk block is readable, if it has one.
pub record SourceCanBeRead (v : Volume) (d : List Cell) (source : Source) : Type 0 where
  pub staged : (staging block : ℕ) → source ≡ Staged staging block → staging < length v.inodes
  pub readable : (b : ℕ) → block_of v source ≡ Some b → IsReadable d b

-- So it is of each block of the file.
abbrev pub FileCanBeRead : Volume → List Cell → List Run → ℕ → Type 0
FileCanBeRead v d runs ino = (block : ℕ) → SourceCanBeRead v d (source_of runs (extents v ino) block)
