-- the laws of the definitions
use Rattle.image_layout.specs.layout_model.LineLaws.{decode_inode-encode_inode, IsInodeLine-decode_inode}
use Rattle.k_inodes.proofs.inode_lines_are_exact.Goals as goal

pub returns-clause-read : goal.returns-clause-read
returns-clause-read c = decode_inode-encode_inode

pub returns-clause-spelled : goal.returns-clause-spelled
returns-clause-spelled c = IsInodeLine-decode_inode
