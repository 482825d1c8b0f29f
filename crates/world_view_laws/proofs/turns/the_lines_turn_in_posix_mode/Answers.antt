use Rattle.world_view_laws.proofs.PosixLines.{posix_lines_home, posix_lines_out}
use Rattle.world_view_laws.proofs.turns.the_lines_turn_in_posix_mode.Goals as goal

pub returns-clause-out : goal.returns-clause-out
returns-clause-out c = posix_lines_out

pub returns-clause-home : goal.returns-clause-home
returns-clause-home c = posix_lines_home
