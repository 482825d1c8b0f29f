use Rattle.fsync_relink.proofs.WorldLaws.{gives-relinks, sane-in-order}
use Rattle.fsync_relink.proofs.relink_laws.relinks.laws.relinks_are_those_of_the_world.Goals as goal

pub returns-clause-relinks : goal.returns-clause-relinks
returns-clause-relinks c = gives-relinks

pub returns-clause-sane : goal.returns-clause-sane
returns-clause-sane c = sane-in-order
