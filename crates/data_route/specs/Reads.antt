-- Where the bytes of a file lie, and the pieces of a read.
use Rattle.std.specs.Prelude.{◌≡◌, ℕ, ◌+◌, ◌-◌, ◌/◌, ◌%◌, ◌≤◌, List, All, map, min, Option, Some, None}
use Rattle.std.specs.List.{flat_map, range_with_len}
use Rattle.file_overlay.specs.extent_model.declared.extent_words.Extent.{Extent}
use Rattle.file_overlay.specs.extent_model.Extents.{disk_at}
use Rattle.file_overlay.specs.declared.runs.Run.{Run}
use Rattle.file_overlay.specs.Runs.{staged_at}
use Rattle.data_route.specs.declared.reads.Source.{Source}
use Rattle.data_route.specs.declared.reads.Source.TheVariants.{Disk, Staged, Zero}
use Rattle.data_route.specs.declared.reads.Piece.{Piece}

-- staged before mapped before zero
abbrev pub source_by : Option (ℕ × ℕ) → Option ℕ → Source
source_by (Some place) disk = Staged place.0 place.1
source_by None (Some block) = Disk block
source_by None None = Zero

-- what has a file block: the last run laid there, else the map, else nothing
abbrev pub source_of : List Run → List Extent → ℕ → Source
source_of runs extents block = source_by (staged_at runs block) (disk_at extents block)

-- where byte i of the file lies: what has its block, and its place in the block
abbrev pub place_of : List Run → List Extent → ℕ → Source × ℕ
place_of runs extents i = (source_of runs extents (i / 4096), i % 4096)

-- where so many bytes of the file lie, from one on and in order
abbrev pub places_from : List Run → List Extent → ℕ → ℕ → List (Source × ℕ)
places_from runs extents from count = map (place_of runs extents) (range_with_len from count)

-- where the bytes of a piece lie, in order
abbrev pub places_in : Piece → List (Source × ℕ)
places_in piece = map (λ i. (piece.source, i)) (range_with_len piece.at piece.len)

-- at least one byte, and all in one block
pub record FitsBlock (piece : Piece) : Type 0 where
  pub filled : 1 ≤ piece.len
  pub within : piece.at + piece.len ≤ 4096

-- how many bytes a read of `len` bytes has, up to the end of the file
abbrev pub read_len : ℕ → ℕ → ℕ → ℕ
read_len size offset len = min len (size - offset)

-- the pieces lie where the bytes of the read lie, in order and each once; each piece is in one block
pub record IsReadPlan (runs : List Run) (extents : List Extent) (size offset len : ℕ) (pieces : List Piece) : Type 0 where
  pub bytes : flat_map places_in pieces ≡ places_from runs extents offset (read_len size offset len)
  pub blocks : All FitsBlock pieces
