use Rattle.k_split_laws.proofs.Cuts.{left_cut, left_map_cut, left_overwritten}
use Rattle.k_split_laws.proofs.lost.cuts_leave_devices.Goals as goal

pub returns-clause-cut : goal.returns-clause-cut
returns-clause-cut c = left_cut

pub returns-clause-maps : goal.returns-clause-maps
returns-clause-maps c = left_map_cut

pub returns-clause-bytes : goal.returns-clause-bytes
returns-clause-bytes c = left_overwritten
