use Rattle.split_machine.specs.Events.{seen}
use Rattle.schedule_tests.specs.Losses.{IsAtMoment}
use Rattle.schedule_tests.proofs.AfterLoss.{moment_can_crash, ok_map}
use Rattle.schedule_tests.proofs.worlds.telling.fault_of_steps.Goals as goal

pub returns : goal.returns
returns c =
    let new = c.fault_on_the_way.new.world in
    let out = seen c.fault_on_the_way.new.out in
    let power = c.fault_on_the_way.new.power in
    ok_map _ _ (IsAtMoment new out power) _ c.fault_on_the_way.result (moment_can_crash new out power) c.fault_on_the_way.ensures
