-- The volume of the fresh image: a directory without names, four staging files, and free inodes; no chain and no map.
use Rattle.std.specs.Prelude.{ℕ, ◌==◌, nat_le, map, replicate, [], ◌∷◌, if◌then◌else◌, List, Option, Some, None}
use Rattle.std.specs.List.{range_with_len}
use Rattle.layout_model.specs.Places.{Geometry}
use Rattle.layout_model.specs.declared.lines.Inode.{Inode}
use Rattle.layout_model.specs.declared.lines.Kind.TheVariants.{Directory, Staging}
use Rattle.layout_model.specs.Fresh.{empty_inode}
use Rattle.image_model.specs.Content.{Node, IsDirectory}
use Rattle.image_model.specs.Volume.{Volume, free_inode}

-- inode 0 a directory, 1 to 4 staging files, the others free
abbrev pub fresh_inode : ℕ → Inode
fresh_inode ino =
    if ino == 0 then empty_inode Directory 0 else if nat_le ino 4 then empty_inode Staging 0 else free_inode

abbrev pub fresh_volume : Geometry → Volume
fresh_volume g =
    record {
      geometry = g;
      base = 1;
      inodes = map fresh_inode (range_with_len 0 g.inodes);
      names = replicate g.names None;
      chains = replicate g.inodes [];
      maps = replicate g.inodes [];
    }

-- the content in which the root stands alone
abbrev pub root_alone : List (List ℕ) → Option Node
root_alone [] = Some IsDirectory
root_alone (name ∷ names) = None
