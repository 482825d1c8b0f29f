-- the laws of the definitions
use Rattle.image_laws.specs.FreshLaws.{fresh-checked_as, content-fresh}
use Rattle.image_laws.proofs.the_fresh_image_is_checked.Goals as goal

pub returns-clause-checked : goal.returns-clause-checked
returns-clause-checked c = fresh-checked_as

pub returns-clause-root : goal.returns-clause-root
returns-clause-root c = content-fresh
