use Rattle.layout_model.specs.SuperLaws.{superblock-read}
use Rattle.image_layout.proofs.layout.superblock.superblock_is_read_back.Goals as goal

pub returns : goal.returns
returns _ = superblock-read
