use Rattle.world_step_laws.specs.OtherCalls.{IsWorld-close_gone, IsWorld-closed, IsWorld-idle, IsWorld-opened}
use Rattle.world_step_laws.proofs.names.other_calls_stay.Goals as goal

pub returns-clause-idle : goal.returns-clause-idle
returns-clause-idle c = IsWorld-idle

pub returns-clause-opened : goal.returns-clause-opened
returns-clause-opened c = IsWorld-opened

pub returns-clause-closed : goal.returns-clause-closed
returns-clause-closed c = IsWorld-closed

pub returns-clause-close_gone : goal.returns-clause-close_gone
returns-clause-close_gone c = IsWorld-close_gone
