use Rattle.posix_laws.specs.DistinctLaws.{AreDistinct-step_of}
use Rattle.posix_laws.specs.FitsLaws.{Fits-step_of}
use Rattle.posix_laws.proofs.facts.states_stay_sound.Goals as goal

pub returns-clause-fits : goal.returns-clause-fits
returns-clause-fits c = Fits-step_of

pub returns-clause-distinct : goal.returns-clause-distinct
returns-clause-distinct c = AreDistinct-step_of
