-- the law of the definitions
use Rattle.image_laws.specs.ClaimLaws.{claim-past}
use Rattle.image_laws.proofs.claims_stand_in_lines.Goals as goal

pub returns : goal.returns
returns c = claim-past
