use Rattle.posix_mode_laws.specs.Permits.{permits_acted, permits_shown, permits_unmounted}
use Rattle.posix_mode_laws.specs.Reread.{permits_lost}
use Rattle.posix_mode_laws.proofs.a_power_loss_is_permitted.Goals as goal

pub returns-clause-shown : goal.returns-clause-shown
returns-clause-shown c = permits_shown

pub returns-clause-acted : goal.returns-clause-acted
returns-clause-acted c = permits_acted

pub returns-clause-unmounted : goal.returns-clause-unmounted
returns-clause-unmounted c = permits_unmounted

pub returns-clause-lost : goal.returns-clause-lost
returns-clause-lost c = permits_lost
