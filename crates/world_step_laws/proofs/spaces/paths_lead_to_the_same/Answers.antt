use Rattle.world_model.specs.name_laws.k_split_model.Spaces.{volume_space}
use Rattle.world_model.specs.posix_spec.State.{space}
use Rattle.world_model.specs.Stands.{IsUsed}
use Rattle.world_step_laws.specs.Mirrors.{node_at_path-same, walk-Ok}
use Rattle.world_step_laws.specs.Spaces.{Mirrors-Stands}
use Rattle.world_step_laws.proofs.spaces.paths_lead_to_the_same.Goals as goal

pub returns-clause-node : goal.returns-clause-node
returns-clause-node c = λ v live f numbers s p stands shape. node_at_path-same (IsUsed v) numbers (volume_space v) (space s) (Mirrors-Stands v live f numbers s stands shape) p

pub returns-clause-directory : goal.returns-clause-directory
returns-clause-directory c =
    λ v live f numbers s p parent stands shape leads. walk-Ok (IsUsed v) numbers (volume_space v) (space s) (Mirrors-Stands v live f numbers s stands shape) p parent leads
