use Rattle.commute_laws.specs.Flights.{InFlight-step}
use Rattle.commute_laws.specs.Histories.{AreInFlight-run, LetsAllBe-idle}
use Rattle.commute_laws.proofs.frames.writes_keep_their_effect.Goals as goal

pub returns-clause-idle : goal.returns-clause-idle
returns-clause-idle c = LetsAllBe-idle

pub returns-clause-write : goal.returns-clause-write
returns-clause-write c = InFlight-step

pub returns-clause-history : goal.returns-clause-history
returns-clause-history c = AreInFlight-run
