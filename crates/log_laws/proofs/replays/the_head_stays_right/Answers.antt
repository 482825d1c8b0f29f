use Rattle.log_laws.proofs.Heads.{headed-next}
use Rattle.log_laws.proofs.replays.the_head_stays_right.Goals as goal

pub returns : goal.returns
returns c = headed-next
