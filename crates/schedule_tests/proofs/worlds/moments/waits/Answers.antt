use Rattle.std.specs.Prelude.{Ok}
use Rattle.std.proofs.Common.{subst}
use Rattle.split_machine.specs.Events.{seen}
use Rattle.split_machine.proofs.Begins.{lines_out}
use Rattle.split_machine.specs.split_world.world_parts.Answers.{IsBegun}
use Rattle.schedule_tests.proofs.UnderWay.{waits_under_way}
use Rattle.schedule_tests.proofs.worlds.moments.waits.Goals as goal

pub begin-requires : goal.begin-requires
begin-requires c = record {
  usable = c.requires.under_way.between.usable;
  out = lines_out c.args.world.now (seen c.args.out.now) c.requires.under_way.between c.requires.under_way.log;
  none = c.requires.none;
  set_up = c.requires.set_up;
}
