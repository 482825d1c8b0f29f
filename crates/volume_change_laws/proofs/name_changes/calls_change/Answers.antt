-- the laws of the definitions
use Rattle.volume_change_laws.specs.CallLaws.{may-make, may-rename}
use Rattle.volume_change_laws.specs.FoundLaws.{make-keeps, rename-keeps, rmdir-keeps, unlink-keeps}
use Rattle.volume_change_laws.proofs.name_changes.calls_change.Goals as goal

pub returns-clause-made : goal.returns-clause-made
returns-clause-made c = may-make

pub returns-clause-renamed : goal.returns-clause-renamed
returns-clause-renamed c = may-rename

pub returns-clause-make : goal.returns-clause-make
returns-clause-make c = make-keeps

pub returns-clause-unlink : goal.returns-clause-unlink
returns-clause-unlink c = unlink-keeps

pub returns-clause-rmdir : goal.returns-clause-rmdir
returns-clause-rmdir c = rmdir-keeps

pub returns-clause-rename : goal.returns-clause-rename
returns-clause-rename c = rename-keeps
