use Rattle.std.proofs.Common.{refl}
use Rattle.check_image.proofs.Heads.{whole-blocks}
use Rattle.check_image.proofs.head.has_whole_blocks.Goals as goal

pub returns : goal.returns
returns c = (
  λ kept. whole-blocks c.args.words c.requires c.if-blocks-lt64.false c.if-blocks-gt16384.false,
  λ kept. refl,
)
