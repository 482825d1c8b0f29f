use Rattle.batch_laws.specs.WorldsLaws.{cut_is_world, live_is_world, staged_is_overlay}
use Rattle.batch_laws.proofs.the_batch_is_seen.Goals as goal

pub returns : goal.returns
returns c = record { live = live_is_world; cut = cut_is_world; overlays = staged_is_overlay }
