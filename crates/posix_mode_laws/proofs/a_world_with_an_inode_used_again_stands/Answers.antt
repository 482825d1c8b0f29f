use Rattle.posix_mode_laws.proofs.ExampleRows.{row_c, waiting_c}
use Rattle.posix_mode_laws.proofs.a_world_with_an_inode_used_again_stands.Goals as goal

pub returns : goal.returns
returns c = record { stands = row_c; waits = waiting_c }
