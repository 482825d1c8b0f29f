-- the laws of the definitions
use Rattle.volume_change_laws.specs.NameLaws.{made-keeps, unnamed-keeps, removed-keeps, renamed-keeps}
use Rattle.volume_change_laws.specs.OverLaws.{renamed_over_file-keeps, renamed_over_directory-keeps}
use Rattle.volume_change_laws.specs.SaneLaws.{way-moved}
use Rattle.volume_change_laws.proofs.name_changes.names_change.Goals as goal

pub returns-clause-made : goal.returns-clause-made
returns-clause-made c = made-keeps

pub returns-clause-unnamed : goal.returns-clause-unnamed
returns-clause-unnamed c = λ line r v kept all is plain. unnamed-keeps line r v kept all (record { is = is; no_directory = plain })

pub returns-clause-removed : goal.returns-clause-removed
returns-clause-removed c = λ line ino r v kept all is child directory empty.
    removed-keeps line ino r v kept all (record { is = is; child_is = child; directory = directory; empty = empty })

pub returns-clause-renamed : goal.returns-clause-renamed
returns-clause-renamed c = renamed-keeps

pub returns-clause-ways : goal.returns-clause-ways
returns-clause-ways c = way-moved

pub returns-clause-over_file : goal.returns-clause-over_file
returns-clause-over_file c = renamed_over_file-keeps

pub returns-clause-over_directory : goal.returns-clause-over_directory
returns-clause-over_directory c = renamed_over_directory-keeps
