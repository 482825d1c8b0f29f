use Rattle.open_files.proofs.TableLaws.{bindings_are_apart}
use Rattle.open_files.proofs.files.laws.bindings_are_apart.Goals as goal

pub returns : goal.returns
returns c = bindings_are_apart
