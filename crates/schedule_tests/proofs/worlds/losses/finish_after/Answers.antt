use Rattle.std.specs.Prelude.{refl}
use Rattle.std.proofs.lemmas.Option.{slice_get_read}
use Rattle.split_machine.specs.Events.{seen}
use Rattle.schedule_tests.specs.Losses.{LosesWork}
use Rattle.schedule_tests.proofs.AfterLoss.{finish_after, may_finish, ok_map}
use Rattle.schedule_tests.proofs.worlds.losses.finish_after.Goals as goal

pub finish_work-requires : goal.finish_work-requires
finish_work-requires c =
    let out = seen c.args.out.now in
    let x = c.remove-held.result in
    may_finish c.args.world.now out c.requires c.in-Some.place x.who x.work
    (slice_get_read out.jobs _ c.in-Some.place x refl c.in-Some.ensures c.remove-held.ensures.value)

pub returns : goal.returns
returns c =
    let out = seen c.args.out.now in
    let x = c.remove-held.result in
    ok_map _ _ (LosesWork c.args.world.now c.finish_work.new.world c.finish_work.new.power x.work) _ c.finish_work.result
    (finish_after c.args.world.now out c.requires c.in-Some.place x.who c.finish_work.new.world _ c.remove-held.ensures.items x.work
    (slice_get_read out.jobs _ c.in-Some.place x refl c.in-Some.ensures c.remove-held.ensures.value) c.finish_work.new.power) c.finish_work.ensures
