use Rattle.k_split_laws.specs.Done.{goes_on, keeps_cut, keeps_log, keeps_off}
use Rattle.k_split_laws.proofs.exits.a_step_ends.Goals as goal

pub returns-clause-done : goal.returns-clause-done
returns-clause-done c = goes_on

pub returns-clause-log : goal.returns-clause-log
returns-clause-log c = keeps_log

pub returns-clause-cut : goal.returns-clause-cut
returns-clause-cut c = keeps_cut

pub returns-clause-off : goal.returns-clause-off
returns-clause-off c = keeps_off
