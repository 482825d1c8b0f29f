-- the laws of the definitions
use Rattle.volume_change_laws.specs.FrameLaws.{made-others, renamed_over_directory-others, dropped-others, made-inode, dropped-inode}
use Rattle.volume_change_laws.specs.LookupLaws.{names-moved}
use Rattle.volume_change_laws.proofs.name_changes.others_stay.Goals as goal

pub returns-clause-made : goal.returns-clause-made
returns-clause-made c = made-others

pub returns-clause-over_directory : goal.returns-clause-over_directory
returns-clause-over_directory c = renamed_over_directory-others

pub returns-clause-dropped : goal.returns-clause-dropped
returns-clause-dropped c = dropped-others

pub returns-clause-counts : goal.returns-clause-counts
returns-clause-counts c = made-inode

pub returns-clause-keeps : goal.returns-clause-keeps
returns-clause-keeps c = dropped-inode

pub returns-clause-names : goal.returns-clause-names
returns-clause-names c = λ v line r s high parent name keyed may. names-moved v.names line r s parent name keyed may.is may.is_new
