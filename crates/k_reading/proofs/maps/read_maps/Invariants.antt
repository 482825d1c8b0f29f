use Rattle.std.proofs.Common.{length}
use Rattle.k_inodes.specs.image_layout.pm_model.Images.{words_of}
use Rattle.k_reading.specs.Tables.{AreFound}
use Rattle.k_reading.proofs.maps.read_maps.Given as goal

-- the chains and the maps of the inodes so far
abbrev pub invariant-loop-inode : goal.invariant-loop-inode
invariant-loop-inode l = AreFound (words_of l.pm) (length l.pm) l.inodes l.inode-index l.chains.items l.maps.items
