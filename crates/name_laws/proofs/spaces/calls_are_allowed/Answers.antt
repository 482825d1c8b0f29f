-- the laws of the definitions
use Rattle.name_laws.specs.PathLaws.{mkdir-may, unlink-may, rmdir-may}
use Rattle.name_laws.specs.RefusalLaws.{mkdir-none}
use Rattle.name_laws.specs.RenameLaws.{rename-may}
use Rattle.name_laws.specs.RenameRefusals.{rename-none}
use Rattle.name_laws.proofs.spaces.calls_are_allowed.Goals as goal

pub returns-clause-mkdir : goal.returns-clause-mkdir
returns-clause-mkdir c = mkdir-may

pub returns-clause-unlink : goal.returns-clause-unlink
returns-clause-unlink c = unlink-may

pub returns-clause-rmdir : goal.returns-clause-rmdir
returns-clause-rmdir c = rmdir-may

pub returns-clause-rename : goal.returns-clause-rename
returns-clause-rename c = rename-may

pub returns-clause-mkdir_back : goal.returns-clause-mkdir_back
returns-clause-mkdir_back c = mkdir-none

pub returns-clause-rename_back : goal.returns-clause-rename_back
returns-clause-rename_back c = rename-none
