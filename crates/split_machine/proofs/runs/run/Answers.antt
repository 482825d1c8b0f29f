use Rattle.std.specs.Prelude.{None}
use Rattle.std.proofs.Common.{arith}
use Rattle.schedule.specs.Seen.{seen_order}
use Rattle.split_machine.specs.Events.{seen}
use Rattle.split_machine.proofs.Ends.{AreFewActs, can_end, run_ended_ok, usable_at}
use Rattle.split_machine.proofs.runs.run.Goals as goal

pub run_events-requires : goal.run_events-requires
run_events-requires c = record { first = c.requires; none = λ k. record { log = None; jobs = c.in_ok-jobs.ensures.items k } }

pub acts-acts-requires : goal.acts-acts-requires
acts-acts-requires c = usable_at c.args.world c.run_events.new.world (seen c.run_events.new.out) c.args.power.now c.run_events.new.power c.in_ok-end.end c.in_ok-end.ensures.ends

pub end_run-requires : goal.end_run-requires
end_run-requires c = can_end c.args.world c.run_events.new.world (seen c.run_events.new.out) c.args.power.now c.run_events.new.power c.in_ok-end.end c.in_ok-end.ensures.ends

pub returns : goal.returns
returns c =
    let few : AreFewActs c.run_events.new.world = omega (arith, c.acts-acts.ensures.acts, c.acts-acts.ensures.most) in
    run_ended_ok c.args.world (seen_order c.args.order) c.args.cut c.run_events.new.world (seen c.run_events.new.out) c.args.power.now c.run_events.new.power c.end_run.new.power few c.in_ok-end.end c.in_ok-end.ensures.ends
    (c.in_ok-end.ensures.comes (seen_order c.args.order) c.new-picker.ensures) c.end_run.result c.end_run.ensures
