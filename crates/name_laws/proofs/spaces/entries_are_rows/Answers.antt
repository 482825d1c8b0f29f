-- the laws of the definitions
use Rattle.name_laws.specs.EntryLaws.{child_of-rows, has_entries-rows, walk_from-rows}
use Rattle.name_laws.specs.HeightLaws.{height-bound}
use Rattle.name_laws.specs.LookLaws.{node_at-rows}
use Rattle.name_laws.proofs.spaces.entries_are_rows.Goals as goal

pub returns-clause-children : goal.returns-clause-children
returns-clause-children c = child_of-rows

pub returns-clause-entries : goal.returns-clause-entries
returns-clause-entries c = has_entries-rows

pub returns-clause-walks : goal.returns-clause-walks
returns-clause-walks c = walk_from-rows

pub returns-clause-nodes : goal.returns-clause-nodes
returns-clause-nodes c = node_at-rows

pub returns-clause-heights : goal.returns-clause-heights
returns-clause-heights c = height-bound
