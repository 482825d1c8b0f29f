use Rattle.std.specs.Prelude.{refl}
use Rattle.std.proofs.Common.{subst}
use Rattle.split_world.specs.world_parts.Answers.{IsFinished}
use Rattle.split_machine.specs.Works as works
use Rattle.split_machine.proofs.work.finish_event.Goals as goal

pub returns-in-Done : goal.returns-in-Done
returns-in-Done c log =
    works.FinishesCall c.args.job c.args.slot refl c.finish.ensures.steps
    (subst (IsFinished c.args.job c.args.slot c.args.world.now c.finish.new.self c.finish.new.power) c.in-Done.is c.finish.ensures.finished)

pub returns-in-PowerLost : goal.returns-in-PowerLost
returns-in-PowerLost c log =
    works.FinishLoses c.args.job c.args.slot refl c.finish.ensures.steps
    (subst (IsFinished c.args.job c.args.slot c.args.world.now c.finish.new.self c.finish.new.power) c.in-PowerLost.is c.finish.ensures.finished)
