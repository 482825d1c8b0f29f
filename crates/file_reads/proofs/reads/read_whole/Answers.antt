use Rattle.std.proofs.lemmas.List.{get_or-replicate}
use Rattle.file_reads.proofs.reads.read_whole.Goals as goal

pub returns-in-None : goal.returns-in-None
returns-in-None c i below = rw c.in-None.is (get_or-replicate 4096 i 0 0 below)
