use Rattle.split_machine.specs.Events.{seen}
use Rattle.schedule_tests.proofs.AfterLoss.{lost_is_after}
use Rattle.schedule_tests.proofs.worlds.losses.lose.Goals as goal

pub returns : goal.returns
returns c = lost_is_after c.args.world.now c.lose.new.self (seen c.args.out.now) c.requires.between c.requires.log c.lose.ensures
