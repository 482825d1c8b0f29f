use Rattle.posix_mode_laws.specs.Sized.{sane_sized}
use Rattle.posix_mode_laws.proofs.sizes_are_no_rule.Goals as goal

pub returns : goal.returns
returns c = sane_sized
