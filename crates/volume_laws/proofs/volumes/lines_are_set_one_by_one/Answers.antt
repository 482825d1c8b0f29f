-- the laws of the definitions
use Rattle.volume_laws.specs.SetLaws.{reads-inode, reads-row}
use Rattle.volume_laws.specs.StateLaws.{reads-state}
use Rattle.volume_laws.proofs.volumes.lines_are_set_one_by_one.Goals as goal

pub returns-clause-inode : goal.returns-clause-inode
returns-clause-inode c = reads-inode

pub returns-clause-row : goal.returns-clause-row
returns-clause-row c = reads-row

pub returns-clause-base : goal.returns-clause-base
returns-clause-base c = reads-state
