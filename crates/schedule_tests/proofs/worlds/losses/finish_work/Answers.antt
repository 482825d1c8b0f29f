use Rattle.std.proofs.Common.{subst, sym}
use Rattle.split_machine.specs.split_world.world_parts.Answers.{IsFinished}
use Rattle.schedule_tests.specs.Losses.{LosesWork, MayFinish}
use Rattle.schedule_tests.proofs.worlds.losses.finish_work.Goals as goal

pub finish-requires : goal.finish-requires
finish-requires c =
    let may = subst (MayFinish c.args.world.now) c.in-Persisted.is c.requires in
    record { usable = may.0; out = may.1; job = may.2; slot = may.3 }

pub returns-in-PowerLost : goal.returns-in-PowerLost
returns-in-PowerLost c =
    subst (LosesWork c.args.world.now c.finish.new.self c.finish.new.power) (sym c.in-Persisted.is)
    (subst (IsFinished c.in-Persisted.job c.in-Persisted.slot c.args.world.now c.finish.new.self c.finish.new.power) c.in-PowerLost.is c.finish.ensures.finished)
