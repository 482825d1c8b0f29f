use Rattle.open_files.proofs.Changes.{open_once_closed, open_once_duped, open_once_opened}
use Rattle.open_files.proofs.numbers.a_change_opens_its_own_node_alone.Goals as goal

pub returns : goal.returns
returns c = record { opened = open_once_opened; duped = open_once_duped; closed = open_once_closed }
