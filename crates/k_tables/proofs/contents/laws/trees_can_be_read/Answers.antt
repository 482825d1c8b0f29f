use Rattle.k_tables.proofs.Reading.{have-trees}
use Rattle.k_tables.proofs.contents.laws.trees_can_be_read.Goals as goal

pub returns : goal.returns
returns c = have-trees
