use Rattle.std.proofs.Common.{◌≡◌, map}
use Rattle.std.specs.List.{range_with_len}
use Rattle.k_inodes.specs.image_layout.pm_model.Images.{words_of}
use Rattle.map_chain.specs.image_model.Volume.{inode_or_free}
use Rattle.k_reading.proofs.lines.read_inodes.Given as goal

-- the inodes of the lines so far
abbrev pub invariant-loop-ino : goal.invariant-loop-ino
invariant-loop-ino l = l.inodes.items ≡ map (inode_or_free (words_of l.pm)) (range_with_len 0 l.ino)
