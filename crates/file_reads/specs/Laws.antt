-- The bytes of a file that has nothing staged.
use Rattle.std.specs.Prelude.{◌≡◌, ℕ, []}
use Rattle.data_route.specs.extent_model.Extents.{disk_at}
use Rattle.k_split.specs.image_model.Volume.{extents, Volume}
use Rattle.file_reads.specs.Reads.{block_in}

-- Where nothing is staged, the map alone says which block a file block has.
abbrev pub MapAlone : Type 0
MapAlone = (v : Volume) (ino block : ℕ) → block_in v [] ino block ≡ disk_at (extents v ino) block
