-- A landing of one run is a move.
use Rattle.k_split_model.proofs.OneRun.{one-run}
use Rattle.k_split_model.proofs.map_changes.laws.a_landing_of_one_run_is_a_move.Goals as goal

pub returns : goal.returns
returns c = one-run
