use Rattle.std.proofs.Common.{rules}
use Rattle.check_image.proofs.head.has_state.Goals as goal

pub returns-then-base-ge1 : goal.returns-then-base-ge1
returns-then-base-ge1 c = search rules
