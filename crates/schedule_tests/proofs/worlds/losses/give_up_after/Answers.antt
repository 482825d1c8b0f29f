use Rattle.std.specs.Prelude.{refl}
use Rattle.std.proofs.lemmas.Option.{slice_get_read}
use Rattle.split_machine.specs.Events.{seen}
use Rattle.schedule_tests.specs.Losses.{GivesWork}
use Rattle.schedule_tests.proofs.AfterLoss.{give_after, may_give_up, ok_map}
use Rattle.schedule_tests.proofs.worlds.losses.give_up_after.Goals as goal

pub give_work-requires : goal.give_work-requires
give_work-requires c =
    let out = seen c.args.out.now in
    let x = c.remove-held.result in
    may_give_up c.args.world.now out c.requires c.in-Some.place x.who x.work
    (slice_get_read out.jobs _ c.in-Some.place x refl c.in-Some.ensures c.remove-held.ensures.value) c.in-Some-log.log c.in-Some-log.is

pub returns : goal.returns
returns c =
    let out = seen c.args.out.now in
    let x = c.remove-held.result in
    ok_map _ _ (GivesWork c.args.world.now c.give_work.new.world c.in-Some-log.log c.give_work.new.log x.work) _ c.give_work.result
    (give_after c.args.world.now out c.requires c.in-Some.place x.who c.give_work.new.world _ c.remove-held.ensures.items x.work
    (slice_get_read out.jobs _ c.in-Some.place x refl c.in-Some.ensures c.remove-held.ensures.value) c.in-Some-log.log c.give_work.new.log c.in-Some-log.is) c.give_work.ensures
