use Rattle.k_split.proofs.OpenLaws.{if-fresh}
use Rattle.k_split.proofs.opening.mkfs.Goals as goal

pub returns-clause-checked : goal.returns-clause-checked
returns-clause-checked c = (if-fresh c.args.geometry.now c.fresh_image.result c.fresh_image.ensures.in_range c.fresh_image.ensures.words).0

pub returns-clause-numbers : goal.returns-clause-numbers
returns-clause-numbers c = (if-fresh c.args.geometry.now c.fresh_image.result c.fresh_image.ensures.in_range c.fresh_image.ensures.words).1

pub returns-clause-root : goal.returns-clause-root
returns-clause-root c = (if-fresh c.args.geometry.now c.fresh_image.result c.fresh_image.ensures.in_range c.fresh_image.ensures.words).2
