-- The content of an image: what stands at each path. A file's length is the size of its live entry of greatest
-- order, or, without one, that of its inode line. Byte i lies in file block i / 4,096, which is the staging block of
-- the greatest live entry that covers it, else the block of the file's own extent, else a hole, whose bytes are
-- zero. Nothing is moved here.
use Rattle.std.specs.Prelude.{ℕ, ◌+◌, ◌-◌, ◌*◌, ◌/◌, ◌%◌, List, map, filter, ◌&&◌, ◌==◌, Option, Some, None, option_and_then}
use Rattle.std.specs.List.{range_with_len}
use Rattle.layout_model.specs.pm_model.Words.{Words, byte_of}
use Rattle.layout_model.specs.Places.{Geometry}
use Rattle.layout_model.specs.Journal.{journaled}
use Rattle.extent_model.specs.Extents.{disk_at, is_within}
use Rattle.layout_model.specs.declared.lines.Draft.{Draft}
use Rattle.layout_model.specs.declared.lines.Kind.{Kind}
use Rattle.layout_model.specs.declared.lines.Kind.TheVariants.{Free, Directory, File, Staging}
use Rattle.layout_model.specs.Names.{walk}
use Rattle.image_model.specs.Volume.{Volume, volume, inode, extents}
use Rattle.image_model.specs.Live.{live_entries, latest}

-- what stands at a path
pub data Node : Type 0 where
  IsDirectory : Node
  HasBytes : List ℕ → Node

-- a file's length, in bytes
abbrev pub size_by : Option Draft → ℕ → ℕ
size_by None size = size
size_by (Some d) size = d.size

abbrev pub size_of : Volume → List Draft → ℕ → ℕ
size_of v live ino = size_by (latest (filter (λ d. d.ino == ino) live)) (inode v ino).size

-- the entry that has a file block last
abbrev pub entry_of_block : List Draft → ℕ → ℕ → Option Draft
entry_of_block live ino block = latest (filter (λ d. (d.ino == ino) && is_within d.file_block d.count block) live)

-- the disk block of a file block, none for a hole
abbrev pub disk_by : Volume → Option Draft → ℕ → ℕ → Option ℕ
disk_by v None ino block = disk_at (extents v ino) block
disk_by v (Some d) ino block = disk_at (extents v d.staging) (d.staging_block + (block - d.file_block))

abbrev pub disk_of : Volume → List Draft → ℕ → ℕ → Option ℕ
disk_of v live ino block = disk_by v (entry_of_block live ino block) ino block

-- byte i of a file, from the disk block of its file block
abbrev pub byte_in : Words → Option ℕ → ℕ → ℕ
byte_in f None i = 0
byte_in f (Some b) i = byte_of f (4096 * b + i % 4096)

abbrev pub bytes_of_file : Volume → List Draft → Words → ℕ → List ℕ
bytes_of_file v live f ino = map (λ i. byte_in f (disk_of v live ino (i / 4096)) i) (range_with_len 0 (size_of v live ino))

abbrev pub node_by : Kind → List ℕ → Option Node
node_by Free bytes = None
node_by Directory bytes = Some IsDirectory
node_by File bytes = Some (HasBytes bytes)
node_by Staging bytes = None

-- what an inode is
unfoldable pub node_of : Volume → List Draft → Words → ℕ → Option Node
node_of v live f ino = node_by (inode v ino).kind (bytes_of_file v live f ino)

-- what stands at a path from the root, inode 0
unfoldable pub found : Volume → List Draft → Words → List (List ℕ) → Option Node
found v live f path = option_and_then (node_of v live f) (walk v.names 0 path)

-- the content of words in which nothing is pending, and of an image
abbrev pub content_of : Geometry → Words → List (List ℕ) → Option Node
content_of g f = found (volume g f) (live_entries (volume g f) f) f

abbrev pub content : Geometry → Words → List (List ℕ) → Option Node
content g image = content_of g (journaled image)
