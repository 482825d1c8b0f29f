use Rattle.std.proofs.Common.{refl}
use Rattle.image_layout.proofs.layout.geometry.is_room_left.Goals as goal

pub returns : goal.returns
returns _ = refl
