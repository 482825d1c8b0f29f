use Rattle.std.proofs.Common.{rules}
use Rattle.posix_types.proofs.call.pwrite_copied.Goals as goal

pub returns : goal.returns
returns c = search rules
