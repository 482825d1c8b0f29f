use Rattle.live_step_laws.proofs.Filled.{fills_as_asked}
use Rattle.live_step_laws.proofs.fills.holes_are_filled_as_asked.Goals as goal

pub returns : goal.returns
returns c = fills_as_asked
