use Rattle.world_model.specs.name_laws.k_split_model.Spaces.{volume_space}
use Rattle.world_model.specs.posix_spec.State.{space}
use Rattle.world_model.specs.Stands.{IsUsed}
use Rattle.world_step_laws.specs.Rows.{HaveSameRows-Mirrors}
use Rattle.world_step_laws.specs.Spaces.{Mirrors-Stands}
use Rattle.world_step_laws.proofs.spaces.replies_are_the_same.Goals as goal

pub returns : goal.returns
returns c = λ v live f numbers s stands shape. HaveSameRows-Mirrors (IsUsed v) numbers (volume_space v) (space s) (Mirrors-Stands v live f numbers s stands shape)
