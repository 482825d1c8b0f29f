-- The fresh image: the superblock, the log base 1, inode 0 a directory, inodes 1 to 4 staging files, all of
-- generation 0; all else is zero. A directory that is made takes an inode line and a name line.
use Rattle.std.specs.Prelude.{ℕ, ◌++◌, List}
use Rattle.std.specs.Int.{to_le_bytes, w64}
use Rattle.pm_model.specs.Words.{Words, with_line}
use Rattle.layout_model.specs.Fields.{zeros}
use Rattle.layout_model.specs.Places.{Geometry, state_line, inode_line}
use Rattle.layout_model.specs.Superblock.{superblock}
use Rattle.layout_model.specs.declared.lines.Inode.{Inode}
use Rattle.layout_model.specs.declared.lines.Kind.{Kind}
use Rattle.layout_model.specs.declared.lines.Kind.TheVariants.{Directory, Staging}
use Rattle.layout_model.specs.Lines.{encode_inode}

-- an inode with no bytes, of a generation
abbrev pub empty_inode : Kind → ℕ → Inode
empty_inode kind generation = record { kind = kind; generation = generation; size = 0; applied = 0; root = 0; extents = 0 }

-- the words in which an inode line has this inode
abbrev pub with_inode : ℕ → Inode → Words → Words
with_inode ino x f = with_line (inode_line ino) (encode_inode x) f

-- the line of the log base
abbrev pub state_bytes : ℕ → List ℕ
state_bytes base = to_le_bytes w64 base ++ zeros 56

abbrev pub blank : Words
blank w = 0

-- inode 0 a directory, 1 to 4 staging files
abbrev pub staging_files : Words
staging_files =
    with_inode 1 (empty_inode Staging 0) (with_inode 2 (empty_inode Staging 0)
    (with_inode 3 (empty_inode Staging 0) (with_inode 4 (empty_inode Staging 0) blank)))

abbrev pub first_inodes : Words
first_inodes = with_inode 0 (empty_inode Directory 0) staging_files

unfoldable pub fresh : Geometry → Words
fresh g = with_line 0 (superblock g) (with_line state_line (state_bytes 1) first_inodes)
