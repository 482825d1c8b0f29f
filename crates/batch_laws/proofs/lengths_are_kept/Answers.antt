use Rattle.batch_laws.specs.IdleLaws.{lengths_are_kept}
use Rattle.batch_laws.proofs.lengths_are_kept.Goals as goal

pub returns : goal.returns
returns c = lengths_are_kept
