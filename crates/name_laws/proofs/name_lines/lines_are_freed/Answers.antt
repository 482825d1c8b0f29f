-- the laws of the definitions
use Rattle.name_laws.specs.ForestLaws.{forest-freed}
use Rattle.name_laws.specs.SetLaws.{child_named-freed, names_of-freed, parent_of-freed}
use Rattle.name_laws.proofs.name_lines.lines_are_freed.Goals as goal

pub returns-clause-gone : goal.returns-clause-gone
returns-clause-gone c = child_named-freed

pub returns-clause-count : goal.returns-clause-count
returns-clause-count c = names_of-freed

pub returns-clause-above : goal.returns-clause-above
returns-clause-above c = parent_of-freed

pub returns-clause-trees : goal.returns-clause-trees
returns-clause-trees c = forest-freed
