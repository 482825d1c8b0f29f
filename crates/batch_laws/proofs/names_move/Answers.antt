use Rattle.batch_laws.specs.RenameLaws.{rename_drop_goes_on, rename_goes_on}
use Rattle.batch_laws.proofs.names_move.Goals as goal

pub returns : goal.returns
returns c = record { renamed = rename_goes_on; over_file = rename_drop_goes_on }
