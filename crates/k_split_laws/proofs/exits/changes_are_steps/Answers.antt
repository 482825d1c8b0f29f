use Rattle.k_split_laws.specs.Cuts.{cuts_as_answer}
use Rattle.k_split_laws.specs.DeviceSteps.{steps_cut, steps_dropped, steps_mkdir, steps_opened, steps_rename, steps_rmdir, steps_unlinked}
use Rattle.k_split_laws.proofs.exits.changes_are_steps.Goals as goal

pub returns-clause-mkdir : goal.returns-clause-mkdir
returns-clause-mkdir c = steps_mkdir

pub returns-clause-opened : goal.returns-clause-opened
returns-clause-opened c = steps_opened

pub returns-clause-rmdir : goal.returns-clause-rmdir
returns-clause-rmdir c = steps_rmdir

pub returns-clause-unlinked : goal.returns-clause-unlinked
returns-clause-unlinked c = steps_unlinked

pub returns-clause-renamed : goal.returns-clause-renamed
returns-clause-renamed c = steps_rename

pub returns-clause-dropped : goal.returns-clause-dropped
returns-clause-dropped c = steps_dropped

pub returns-clause-cut : goal.returns-clause-cut
returns-clause-cut c = steps_cut

pub returns-clause-as_answer : goal.returns-clause-as_answer
returns-clause-as_answer c = cuts_as_answer
