-- the law of the definitions, at fields of their widths
use Rattle.std.proofs.Common.{◌∙◌, ap}
use Rattle.image_layout.specs.layout_model.Lines.{decode_inode}
use Rattle.image_layout.specs.layout_model.LineLaws.{decode_inode-encode_inode}
use Rattle.k_inodes.proofs.encode_inode.Goals as goal

pub returns-clause-read : goal.returns-clause-read
returns-clause-read c ok =
    ap decode_inode c.spelled.ensures.line ∙ decode_inode-encode_inode c.args.inode.now c.spelled.ensures.fits ok
