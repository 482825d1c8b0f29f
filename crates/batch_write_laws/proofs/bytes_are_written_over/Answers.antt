use Rattle.batch_write_laws.specs.PartsLaws.{settled_is_settled}
use Rattle.batch_write_laws.specs.PiecesLaws.{cut_is_lost, done_is_written}
use Rattle.batch_write_laws.proofs.bytes_are_written_over.Goals as goal

pub returns : goal.returns
returns c = record { done = done_is_written; cut = cut_is_lost; settled = settled_is_settled }
