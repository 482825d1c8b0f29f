use Rattle.eof_laws.proofs.Finished.{end_finished, leaves_no_shorter}
use Rattle.eof_laws.proofs.finishes.finished_writes_end_with_their_files.Goals as goal

pub returns : goal.returns
returns c = record { longer = leaves_no_shorter; finished = end_finished }
