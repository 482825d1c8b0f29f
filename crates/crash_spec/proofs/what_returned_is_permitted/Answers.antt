use Rattle.posix_laws.specs.posix_spec.Run.{IsLegal-append}
use Rattle.crash_spec.specs.RelationLaws.{StronglyPermitted-none, Sync-one}
use Rattle.crash_spec.specs.Strict.{Strict-one}
use Rattle.crash_spec.proofs.what_returned_is_permitted.Goals as goal

pub returns-clause-history : goal.returns-clause-history
returns-clause-history c = StronglyPermitted-none

pub returns-clause-strict : goal.returns-clause-strict
returns-clause-strict c = Strict-one

pub returns-clause-sync : goal.returns-clause-sync
returns-clause-sync c = Sync-one

pub returns-clause-legal : goal.returns-clause-legal
returns-clause-legal c = IsLegal-append
