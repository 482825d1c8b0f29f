-- the laws of the definitions
use Rattle.image_laws.specs.ViewLaws.{checked_as-same_view, content-same_view, stands-but_log}
use Rattle.image_laws.proofs.images_of_one_view_are_alike.Goals as goal

pub returns-clause-checked : goal.returns-clause-checked
returns-clause-checked c = checked_as-same_view

pub returns-clause-content : goal.returns-clause-content
returns-clause-content c = content-same_view

pub returns-clause-log : goal.returns-clause-log
returns-clause-log c = stands-but_log
