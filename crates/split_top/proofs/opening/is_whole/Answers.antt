use Rattle.std.proofs.Common.{refl}
use Rattle.split_top.proofs.Lengths.{whole-blocks}
use Rattle.split_top.proofs.opening.is_whole.Goals as goal

pub returns : goal.returns
returns c = (
  λ kept. whole-blocks c.args.bytes c.if-bytes-ne0.false c.if-blocks-lt64.false c.if-blocks-gt16384.false,
  λ kept. refl,
)
