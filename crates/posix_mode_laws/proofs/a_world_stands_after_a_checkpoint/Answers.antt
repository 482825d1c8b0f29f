use Rattle.posix_mode_laws.proofs.ExampleRows.{row_b, row_b_after}
use Rattle.posix_mode_laws.proofs.a_world_stands_after_a_checkpoint.Goals as goal

pub returns : goal.returns
returns c = record { relinked = row_b; committed = row_b_after }
