-- by the footprint of contents
use Rattle.k_split.proofs.ContentLaws.{have-old-or-new, none-own}
use Rattle.k_split.proofs.laws.images_have_the_old_or_the_new_content.Goals as goal

pub returns-clause-content : goal.returns-clause-content
returns-clause-content c = have-old-or-new

pub returns-clause-none : goal.returns-clause-none
returns-clause-none c = none-own
