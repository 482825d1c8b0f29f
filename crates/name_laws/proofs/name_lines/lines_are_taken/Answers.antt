-- the laws of the definitions
use Rattle.name_laws.specs.ForestLaws.{forest-taken}
use Rattle.name_laws.specs.SetLaws.{find_name-set, child_named-taken, names_of-taken, free_lines-taken, parent_of-taken}
use Rattle.name_laws.proofs.name_lines.lines_are_taken.Goals as goal

pub returns-clause-found : goal.returns-clause-found
returns-clause-found c = find_name-set

pub returns-clause-names : goal.returns-clause-names
returns-clause-names c = child_named-taken

pub returns-clause-count : goal.returns-clause-count
returns-clause-count c = names_of-taken

pub returns-clause-free : goal.returns-clause-free
returns-clause-free c = free_lines-taken

pub returns-clause-above : goal.returns-clause-above
returns-clause-above c = parent_of-taken

pub returns-clause-trees : goal.returns-clause-trees
returns-clause-trees c = forest-taken
