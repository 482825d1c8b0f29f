use Rattle.world_model.specs.Pictures.{keeps_laps, shows_pictures}
use Rattle.world_model.proofs.log_rules.an_image_shows_claims_and_jobs.Goals as goal

pub returns-clause-pictures : goal.returns-clause-pictures
returns-clause-pictures c = shows_pictures

pub returns-clause-laps : goal.returns-clause-laps
returns-clause-laps c = keeps_laps
