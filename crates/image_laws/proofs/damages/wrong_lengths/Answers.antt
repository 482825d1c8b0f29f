-- the rows
use Rattle.image_laws.specs.HeadDamage.{one_byte_short, empty_image}
use Rattle.image_laws.proofs.damages.wrong_lengths.Goals as goal

pub returns-clause-short : goal.returns-clause-short
returns-clause-short c = one_byte_short

pub returns-clause-empty : goal.returns-clause-empty
returns-clause-empty c = empty_image
