use Rattle.std.proofs.Common.{arith}
use Rattle.split_top.proofs.DeviceImages.{has_image}
use Rattle.split_top.proofs.device_images.has_image.Goals as goal

pub returns : goal.returns
returns c = has_image c.args.pm.now c.requires (λ i below. c.loop-word.invariant i (omega (arith, c.words-word-end.ensures)))
