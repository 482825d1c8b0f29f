-- the rows
use Rattle.image_laws.specs.TreeRows.{sixteen_steps, seventeen_steps}
use Rattle.image_laws.proofs.damages.deep_trees.Goals as goal

pub returns-clause-sixteen : goal.returns-clause-sixteen
returns-clause-sixteen c = sixteen_steps

pub returns-clause-seventeen : goal.returns-clause-seventeen
returns-clause-seventeen c = seventeen_steps
