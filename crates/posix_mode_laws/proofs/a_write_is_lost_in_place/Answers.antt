use Rattle.posix_mode_laws.proofs.ExampleRows.{row_lost}
use Rattle.posix_mode_laws.proofs.a_write_is_lost_in_place.Goals as goal

pub returns : goal.returns
returns c = row_lost
