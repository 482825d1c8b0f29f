-- the laws of the definitions
use Rattle.image_laws.specs.CheckedLaws.{checked-HoldAll, checked-unbroken, Breaks-one}
use Rattle.image_laws.specs.KeptRules.{reads-break}
use Rattle.image_laws.proofs.the_first_broken_rule_is_one.Goals as goal

pub returns-clause-list : goal.returns-clause-list
returns-clause-list c = checked-HoldAll

pub returns-clause-checked : goal.returns-clause-checked
returns-clause-checked c = checked-unbroken

pub returns-clause-one : goal.returns-clause-one
returns-clause-one c = Breaks-one

pub returns-clause-volume : goal.returns-clause-volume
returns-clause-volume c = reads-break
