use Rattle.open_files.proofs.Few.{few_are_open}
use Rattle.open_files.proofs.files.laws.at_most_64_files_are_open.Goals as goal

pub returns : goal.returns
returns c = few_are_open
