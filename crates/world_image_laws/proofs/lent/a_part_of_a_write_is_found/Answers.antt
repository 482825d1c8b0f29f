use Rattle.world_image_laws.specs.Amid.{kept_part_among}
use Rattle.world_image_laws.specs.Places.{go_on_at_first, go_on_in_part, SyncFrom-part}
use Rattle.world_image_laws.proofs.lent.a_part_of_a_write_is_found.Goals as goal

pub returns : goal.returns
returns c = record { among = SyncFrom-part; kept = kept_part_among; on = go_on_in_part; first = go_on_at_first }
