-- the laws of the definitions
use Rattle.name_laws.specs.ForestLaws.{forest-moved, up-empty, up-moved}
use Rattle.name_laws.specs.SetLaws.{child_named-past}
use Rattle.name_laws.proofs.name_lines.other_lines_stay.Goals as goal

pub returns-clause-found : goal.returns-clause-found
returns-clause-found c = child_named-past

pub returns-clause-above : goal.returns-clause-above
returns-clause-above c = up-empty

pub returns-clause-through : goal.returns-clause-through
returns-clause-through c = up-moved

pub returns-clause-trees : goal.returns-clause-trees
returns-clause-trees c = forest-moved
