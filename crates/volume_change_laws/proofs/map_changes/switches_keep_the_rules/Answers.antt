use Rattle.volume_change_laws.specs.Switches.{switched-free, switched-keeps, wait-once, wait-unused}
use Rattle.volume_change_laws.proofs.map_changes.switches_keep_the_rules.Goals as goal

pub returns-clause-kept : goal.returns-clause-kept
returns-clause-kept c = switched-keeps

pub returns-clause-free : goal.returns-clause-free
returns-clause-free c = switched-free

pub returns-clause-unused : goal.returns-clause-unused
returns-clause-unused c = wait-unused

pub returns-clause-once : goal.returns-clause-once
returns-clause-once c = wait-once
