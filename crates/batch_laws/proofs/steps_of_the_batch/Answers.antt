use Rattle.batch_laws.specs.StepsLaws.{blocks_stay, lines_of_one, worlds_make_batch}
use Rattle.batch_laws.proofs.steps_of_the_batch.Goals as goal

pub returns : goal.returns
returns c = record { worlds = worlds_make_batch; blocks = blocks_stay; lines = lines_of_one }
