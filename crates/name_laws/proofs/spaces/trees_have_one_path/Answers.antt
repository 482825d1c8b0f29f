-- the laws of the definitions
use Rattle.name_laws.specs.TreeLaws.{below-path, one-path}
use Rattle.name_laws.proofs.spaces.trees_have_one_path.Goals as goal

pub returns-clause-one : goal.returns-clause-one
returns-clause-one c = one-path

pub returns-clause-begins : goal.returns-clause-begins
returns-clause-begins c = below-path
