-- Each pass has its number and its view, and is outside.
use Rattle.std.proofs.Common.{false, rules}
use Rattle.thread_rows.proofs.waking.times_left.Goals as goal

pub come_at_once-requires-clause-outside : goal.come_at_once-requires-clause-outside
come_at_once-requires-clause-outside g c κs within = λ k d below. (k, false, search rules)
