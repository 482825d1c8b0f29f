use Rattle.world_step_laws.specs.RenameCalls.{IsWorld-rename_closed, IsWorld-rename_directory, IsWorld-rename_midway, IsWorld-rename_open, IsWorld-renamed}
use Rattle.world_step_laws.proofs.names.names_move.Goals as goal

pub returns-clause-renamed : goal.returns-clause-renamed
returns-clause-renamed c = IsWorld-renamed

pub returns-clause-rename_open : goal.returns-clause-rename_open
returns-clause-rename_open c = IsWorld-rename_open

pub returns-clause-rename_midway : goal.returns-clause-rename_midway
returns-clause-rename_midway c = IsWorld-rename_midway

pub returns-clause-rename_closed : goal.returns-clause-rename_closed
returns-clause-rename_closed c = IsWorld-rename_closed

pub returns-clause-rename_directory : goal.returns-clause-rename_directory
returns-clause-rename_directory c = IsWorld-rename_directory
