-- the laws of the definitions
use Rattle.image_laws.specs.ClimbLaws.{ends-reaches, reaches-ends, return-no_root}
use Rattle.image_laws.proofs.the_way_up_is_decided.Goals as goal

pub returns-clause-decided : goal.returns-clause-decided
returns-clause-decided c = λ rows n ino. (ends-reaches rows n ino, reaches-ends rows n ino)

pub returns-clause-returning : goal.returns-clause-returning
returns-clause-returning c = return-no_root
