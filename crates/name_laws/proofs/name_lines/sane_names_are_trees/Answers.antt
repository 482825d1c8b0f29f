-- the laws of the definitions
use Rattle.name_laws.specs.ForestLaws.{forest-acyclic}
use Rattle.name_laws.specs.KeptLaws.{kept-forest}
use Rattle.name_laws.proofs.name_lines.sane_names_are_trees.Goals as goal

pub returns-clause-trees : goal.returns-clause-trees
returns-clause-trees c = kept-forest

pub returns-clause-acyclic : goal.returns-clause-acyclic
returns-clause-acyclic c = forest-acyclic
