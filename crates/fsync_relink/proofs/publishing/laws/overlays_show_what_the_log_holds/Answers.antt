use Rattle.fsync_relink.proofs.LoggedLaws.{shows-logged}
use Rattle.fsync_relink.proofs.publishing.laws.overlays_show_what_the_log_holds.Goals as goal

pub returns : goal.returns
returns c = shows-logged c.the_last_run_has_the_greatest_order.ensures c.no_run_has_a_block_that_is_not_found.ensures
