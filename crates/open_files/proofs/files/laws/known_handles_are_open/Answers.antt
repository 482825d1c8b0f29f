use Rattle.open_files.proofs.TableLaws.{known_handles_are_open}
use Rattle.open_files.proofs.files.laws.known_handles_are_open.Goals as goal

pub returns : goal.returns
returns c = known_handles_are_open
