use Rattle.batch_laws.specs.QuietLaws.{quiet_puts_none, refused_puts_none}
use Rattle.batch_laws.proofs.quiet_calls_put_none.Goals as goal

pub returns : goal.returns
returns c = record { quiet = quiet_puts_none; refused = refused_puts_none }
