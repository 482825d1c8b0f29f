use Rattle.k_split_laws.specs.Cuts.{steps_cut_seen}
use Rattle.k_split_laws.specs.Moves.{steps_rename_seen}
use Rattle.k_split_laws.specs.Steps.{steps_dropped_seen, steps_mkdir_seen, steps_opened_seen, steps_rmdir_seen, steps_unlinked_seen}
use Rattle.k_split_laws.proofs.seen.changes_are_seen_as_steps.Goals as goal

pub returns-clause-mkdir : goal.returns-clause-mkdir
returns-clause-mkdir c = steps_mkdir_seen

pub returns-clause-opened : goal.returns-clause-opened
returns-clause-opened c = steps_opened_seen

pub returns-clause-cut : goal.returns-clause-cut
returns-clause-cut c = steps_cut_seen

pub returns-clause-rmdir : goal.returns-clause-rmdir
returns-clause-rmdir c = steps_rmdir_seen

pub returns-clause-unlinked : goal.returns-clause-unlinked
returns-clause-unlinked c = steps_unlinked_seen

pub returns-clause-renamed : goal.returns-clause-renamed
returns-clause-renamed c = steps_rename_seen

pub returns-clause-dropped : goal.returns-clause-dropped
returns-clause-dropped c = steps_dropped_seen
