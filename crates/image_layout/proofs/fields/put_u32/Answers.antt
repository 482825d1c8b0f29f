use Rattle.std.proofs.Common.{refl}
use Rattle.image_layout.proofs.Putting.{put_is}
use Rattle.image_layout.proofs.fields.put_u32.Goals as goal

pub returns : goal.returns
returns c = rw (c.copy_from_slice.ensures.after, c.to_le_bytes.ensures) (put_is c.args.line.now _ c.args.at 4 refl)
