use Rattle.world_step_laws.specs.Spaces.{Mirrors-Stands}
use Rattle.world_step_laws.proofs.spaces.as_much_is_left.Goals as goal

pub returns-clause-nodes : goal.returns-clause-nodes
returns-clause-nodes c = λ v live f numbers s stands shape. (Mirrors-Stands v live f numbers s stands shape).nodes_left

pub returns-clause-lines : goal.returns-clause-lines
returns-clause-lines c = λ v live f numbers s stands shape. (Mirrors-Stands v live f numbers s stands shape).lines_left

pub returns-clause-high : goal.returns-clause-high
returns-clause-high c = λ v live f numbers s ino stands shape used. (Mirrors-Stands v live f numbers s stands shape).heights ino used

pub returns-clause-full : goal.returns-clause-full
returns-clause-full c = λ v live f numbers s ino stands shape used. (Mirrors-Stands v live f numbers s stands shape).filled ino used
