use Rattle.round_laws.proofs.Begun.{starts_mounted}
use Rattle.round_laws.proofs.Going.{starts_going}
use Rattle.round_laws.proofs.Trees.{shows_tree}
use Rattle.round_laws.proofs.starts.a_world_begins.Goals as goal

pub returns-clause-tree : goal.returns-clause-tree
returns-clause-tree c = shows_tree

pub returns-clause-going : goal.returns-clause-going
returns-clause-going c = starts_going c.files_end_after_changes_of_maps.ensures.begun

pub returns-clause-mounted : goal.returns-clause-mounted
returns-clause-mounted c = starts_mounted
