use Rattle.log_laws.proofs.InOrder.{first-in_order}
use Rattle.log_laws.proofs.replays.live_entries_come_in_order.Goals as goal

pub returns : goal.returns
returns c = first-in_order
