use Rattle.file_overlay.specs.Runs.{has_block}
use Rattle.file_overlay.proofs.LastRuns.{last-none}
use Rattle.file_overlay.proofs.no_run_has_a_block_that_is_not_found.Goals as goal

pub returns : goal.returns
returns c = λ runs block none. last-none (has_block block) runs none
