-- The geometry that four numbers make.
use Rattle.std.specs.Prelude.{ℕ}
use Rattle.layout_model.specs.Places.{Geometry}

-- a geometry of the one known version with these numbers
abbrev pub numbered : ℕ → ℕ → ℕ → ℕ → Geometry
numbered blocks log inodes names =
    record { version = 1; blocks = blocks; log = log; inodes = inodes; names = names }

-- the default image: 256 blocks, 64 log lines, 64 inode lines, 128 name lines
abbrev pub default_numbers : Geometry
default_numbers = numbered 256 64 64 128
