use Rattle.fsync_relink.proofs.StagingLaws.{keeps-content-filled, keeps-content-given_up, restages-filled, restages-given_up, stays-dead}
use Rattle.fsync_relink.proofs.relink_laws.relinks.laws.staging_files_change_as_in_the_world.Goals as goal

pub returns-clause-filled : goal.returns-clause-filled
returns-clause-filled c = restages-filled

pub returns-clause-given_up : goal.returns-clause-given_up
returns-clause-given_up c = restages-given_up

pub returns-clause-dead : goal.returns-clause-dead
returns-clause-dead c = stays-dead

pub returns-clause-content_filled : goal.returns-clause-content_filled
returns-clause-content_filled c = keeps-content-filled

pub returns-clause-content_given_up : goal.returns-clause-content_given_up
returns-clause-content_given_up c = keeps-content-given_up
