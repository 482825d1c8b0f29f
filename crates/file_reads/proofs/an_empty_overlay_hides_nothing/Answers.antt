use Rattle.file_reads.proofs.Places.{map_alone}
use Rattle.file_reads.proofs.an_empty_overlay_hides_nothing.Goals as goal

pub returns : goal.returns
returns c = map_alone
