use Rattle.crash_spec.specs.RelationLaws.{Strict-idle, Sync-idle}
use Rattle.crash_spec.proofs.Synced.{Posix-synced}
use Rattle.crash_spec.proofs.one_tree_is_left.Goals as goal

pub returns-clause-strict : goal.returns-clause-strict
returns-clause-strict c = Strict-idle

pub returns-clause-sync : goal.returns-clause-sync
returns-clause-sync c = Sync-idle

pub returns-clause-posix : goal.returns-clause-posix
returns-clause-posix c = Posix-synced
