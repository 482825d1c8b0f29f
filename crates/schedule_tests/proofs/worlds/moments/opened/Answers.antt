use Rattle.split_machine.proofs.Loop.{reached_at_first}
use Rattle.split_machine.specs.Events.{seen}
use Rattle.schedule_tests.proofs.UnderWay.{first_under_way}
use Rattle.schedule_tests.proofs.worlds.moments.opened.Goals as goal

pub open_round-requires : goal.open_round-requires
open_round-requires c = (reached_at_first c.args.world.now c.requires.first (seen c.args.out.now) c.requires.none c.args.power.now).between

pub returns-in-Ok : goal.returns-in-Ok
returns-in-Ok c = first_under_way c.args.world.now c.open_round.new.world (seen c.args.out.now) (seen c.open_round.new.out) c.args.power.now c.requires.first c.requires.none c.in-Ok.ensures
