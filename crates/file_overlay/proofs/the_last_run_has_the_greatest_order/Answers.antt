use Rattle.file_overlay.specs.declared.runs.Run.{Run}
use Rattle.file_overlay.specs.Runs.{has_block}
use Rattle.file_overlay.proofs.LastRuns.{last-greatest, last-passes}
use Rattle.file_overlay.proofs.the_last_run_has_the_greatest_order.Goals as goal

pub returns : goal.returns
returns c = λ runs block run rising found. (
  (last-passes (has_block block) (λ (r : Run). Unit {0}) runs run (λ k d below. tt) found).1,
  last-greatest (has_block block) (λ (r : Run). r.order) runs run rising found,
)
