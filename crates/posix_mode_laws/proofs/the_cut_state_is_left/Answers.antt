use Rattle.posix_mode_laws.specs.CutStands.{cut_is_one, cut_left, fits_left}
use Rattle.posix_mode_laws.proofs.the_cut_state_is_left.Goals as goal

pub returns-clause-left : goal.returns-clause-left
returns-clause-left c = cut_left

pub returns-clause-one : goal.returns-clause-one
returns-clause-one c = cut_is_one

pub returns-clause-fits : goal.returns-clause-fits
returns-clause-fits c = fits_left
