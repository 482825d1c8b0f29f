-- The worked world is valid, and its claims stand: nothing that is asked of a world contradicts the rest.
use Rattle.std.specs.Prelude.{[], ◌∷◌}
use Rattle.world_model.specs.Claims.{ClaimsStand}
use Rattle.world_model.specs.Example.{claims_a, job_a, numbers_a, state_a, volume_a, words_a}
use Rattle.world_model.specs.Jobs.{Valid}

abbrev pub HasValidWorld : Type 0
HasValidWorld = Valid volume_a claims_a (job_a ∷ []) words_a numbers_a state_a × ClaimsStand volume_a claims_a
