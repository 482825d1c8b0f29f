use Rattle.crash_spec.specs.StrongLaws.{Permitted-Strongly}
use Rattle.crash_spec.specs.RelationLaws.{IsPartOf-none, IsPartOf-whole, Sync-Strict}
use Rattle.crash_spec.proofs.modes_imply_modes.Goals as goal

pub returns-clause-sync : goal.returns-clause-sync
returns-clause-sync c = Sync-Strict

pub returns-clause-whole : goal.returns-clause-whole
returns-clause-whole c = IsPartOf-whole

pub returns-clause-none : goal.returns-clause-none
returns-clause-none c = IsPartOf-none

pub returns-clause-strongly : goal.returns-clause-strongly
returns-clause-strongly c = Permitted-Strongly
