use Rattle.world_view_laws.proofs.PosixLosing.{posix_found_lost, posix_keeps_home, posix_lost}
use Rattle.world_view_laws.proofs.turns.the_power_goes_in_posix_mode.Goals as goal

pub returns-clause-call : goal.returns-clause-call
returns-clause-call c = posix_lost

pub returns-clause-found : goal.returns-clause-found
returns-clause-found c = posix_found_lost

pub returns-clause-home : goal.returns-clause-home
returns-clause-home c = posix_keeps_home
