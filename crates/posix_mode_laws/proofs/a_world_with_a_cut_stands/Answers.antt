use Rattle.posix_mode_laws.proofs.ExampleRows.{row_d, row_e}
use Rattle.posix_mode_laws.proofs.a_world_with_a_cut_stands.Goals as goal

pub returns : goal.returns
returns c = record { between = row_d; relinked = row_e }
