use Rattle.std.proofs.Common.{rules}
use Rattle.check_image.proofs.blocks.first_twice.Goals as goal

pub loop-place-preserved : goal.loop-place-preserved
loop-place-preserved c = search rules
