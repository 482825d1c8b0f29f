use Rattle.std.specs.Prelude.{Option, IsSome, refl}
use Rattle.std.proofs.Common.{ap, ◌∙◌, subst}
use Rattle.std.proofs.lemmas.Option.{slice_get_read}
use Rattle.run_laws.specs.round_log.Rounds.{RoundView}
use Rattle.split_machine.specs.Events.{seen, with_back}
use Rattle.split_machine.proofs.Begins.{none_some}
use Rattle.split_machine.proofs.Jobs.{job_acted, ready}
use Rattle.split_machine.proofs.events.job_event.Goals as goal

pub unreachable-requires : goal.unreachable-requires
unreachable-requires c = none_some RoundView (subst (λ (o : Option RoundView). IsSome o) c.in_default.is c.requires.log)

pub work_event-work-requires : goal.work_event-work-requires
work_event-work-requires c =
    let h = c.remove-held.result in
    ready h.who c.args.world.now (seen c.args.out.now) c.args.place c.in-Some.log c.requires.between c.in-Some.is c.args.power.now c.requires.on h.work
    (slice_get_read c.args.out.now.jobs.items _ c.args.place h refl c.requires.within c.remove-held.ensures.value)

pub returns : goal.returns
returns c h at =
    let x = c.remove-held.result in
    job_acted c.args.world.now c.work_event-work.new.world (seen c.args.out.now) c.args.place c.in-Some.log c.work_event-work.new.log c.args.power.now c.work_event-work.new.power c.requires c.in-Some.is x h
    (slice_get_read c.args.out.now.jobs.items _ c.args.place x refl c.requires.within c.remove-held.ensures.value) at c.work_event-work.result.0 c.work_event-work.result.1 c.work_event-work.ensures
    _ (c.in_ok-put_back.ensures ∙ ap (λ xs. with_back xs c.args.place x.who c.work_event-work.result.0) c.remove-held.ensures.items) _ c.acted.ensures
