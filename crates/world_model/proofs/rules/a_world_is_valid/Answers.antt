use Rattle.world_model.specs.Example.{claims_a, numbers_a, state_a, volume_a, words_a}
use Rattle.world_model.specs.ExampleJob.{ClaimsStand-a, JobStands-a}
use Rattle.world_model.specs.ExampleParts.{afforded, fits, log_stands, names_stand, nodes_stand, puts, sane}
use Rattle.world_model.specs.Jobs.{live_claims}
use Rattle.world_model.specs.Stands.{Stands}
use Rattle.world_model.proofs.rules.a_world_is_valid.Goals as goal

stands : Stands volume_a (live_claims volume_a claims_a) words_a numbers_a state_a
stands = record { sane = sane; names = names_stand; nodes = nodes_stand; log = log_stands }

pub returns : goal.returns
returns c = (record { stands = stands; out = (JobStands-a puts, tt, tt); fits = fits; room = afforded }, ClaimsStand-a)
