-- the laws of the definitions
use Rattle.image_laws.specs.CheckedLaws.{parts-checked, checked-parts}
use Rattle.image_laws.proofs.a_checked_image_is_its_parts.Goals as goal

pub returns-clause-parts : goal.returns-clause-parts
returns-clause-parts c = parts-checked

pub returns-clause-whole : goal.returns-clause-whole
returns-clause-whole c = checked-parts
