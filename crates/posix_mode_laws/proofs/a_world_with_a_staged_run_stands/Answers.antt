use Rattle.posix_mode_laws.proofs.ExampleRows.{row_a}
use Rattle.posix_mode_laws.proofs.a_world_with_a_staged_run_stands.Goals as goal

pub returns : goal.returns
returns c = row_a
