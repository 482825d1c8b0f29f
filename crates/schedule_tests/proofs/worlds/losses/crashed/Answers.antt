use Rattle.std.proofs.Common.{subst}
use Rattle.split_machine.specs.Events.{seen}
use Rattle.split_machine.specs.Runs.{IsCrashed}
use Rattle.schedule_tests.proofs.worlds.losses.crashed.Goals as goal

pub returns-in-Ok-Lost : goal.returns-in-Ok-Lost
returns-in-Ok-Lost c = (subst (IsCrashed c.args.world (seen c.args.out) c.always-power.result c.always-power.result) c.in-Ok-Lost.field-0-is c.in-Ok-Lost.ensures).0.home
