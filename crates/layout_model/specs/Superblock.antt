-- The superblock, line 0 of an image: 0 the eight bytes `SPLITFS1`; then five numbers of four bytes, the version,
-- the blocks, and the lines of the log, the inodes and the names; all other bytes are zero.
use Rattle.std.specs.Prelude.{ℕ, List, ◌++◌, take, Bool, ◌&&◌, ◌==◌, codes}
use Rattle.std.specs.Int.{to_le_bytes, w32}
use Rattle.layout_model.specs.Fields.{u32_at, zeros, is_same}
use Rattle.layout_model.specs.Places.{Geometry, is_in_range}

abbrev pub magic : List ℕ
magic = codes "SPLITFS1"

-- the 64 bytes of a geometry
abbrev pub superblock : Geometry → List ℕ
superblock g =
    magic ++ to_le_bytes w32 g.version ++ to_le_bytes w32 g.blocks ++ to_le_bytes w32 g.log
    ++ to_le_bytes w32 g.inodes ++ to_le_bytes w32 g.names ++ zeros 36

-- the numbers that stand in a line
abbrev pub geometry_at : List ℕ → Geometry
geometry_at bytes =
    record { version = u32_at bytes 8; blocks = u32_at bytes 12; log = u32_at bytes 16; inodes = u32_at bytes 20; names = u32_at bytes 24 }

-- A line is a superblock where it begins with the magic bytes, has a known version, and is the line of a geometry
-- whose numbers are in range. The first of the three that fails is the fault.
abbrev pub has_magic : List ℕ → Bool
has_magic bytes = is_same (take 8 bytes) magic

abbrev pub has_version : List ℕ → Bool
has_version bytes = u32_at bytes 8 == 1

abbrev pub has_numbers : List ℕ → Bool
has_numbers bytes = is_in_range (geometry_at bytes) && is_same bytes (superblock (geometry_at bytes))
