use Rattle.std.specs.Prelude.{List, Ok}
use Rattle.std.proofs.Common.{subst, sym}
use Rattle.split_world.specs.world_parts.Answers.{IsBegun}
use Rattle.run_laws.specs.declared.held.Held.{Held}
use Rattle.run_laws.specs.Held.{OutView}
use Rattle.split_machine.specs.declared.outstanding.Acted.{Acted}
use Rattle.split_machine.specs.Events.{IsActed, seen}
use Rattle.split_machine.proofs.Begins.{acted_job, acted_lost, acted_over, acted_return, lines_out, never_ends, never_waits}
use Rattle.split_machine.proofs.events.begin_event.Goals as goal

pub begin-requires : goal.begin-requires
begin-requires c = record {
  usable = c.requires.can.between.usable;
  out = lines_out c.args.world.now (seen c.args.out.now) c.requires.can.between c.requires.can.log;
  none = c.requires.can.none;
  set_up = c.requires.can.set_up;
}

pub returns-in-Done : goal.returns-in-Done
returns-in-Done c =
    let is = subst (λ b. IsBegun c.args.who c.args.world.now c.begin.new.self c.args.power.now c.begin.new.power (Ok b)) c.in-Done.is c.in_ok-begin.ensures.begun in
    acted_return c.args.who c.args.world.now c.begin.new.self (seen c.args.out.now) c.args.power.now c.begin.new.power c.requires c.in_ok-begin.ensures.steps is

pub returns-in_ok-push_job-in-Job : goal.returns-in_ok-push_job-in-Job
returns-in_ok-push_job-in-Job c =
    let is = subst (λ b. IsBegun c.args.who c.args.world.now c.begin.new.self c.args.power.now c.begin.new.power (Ok b)) c.in-Job.is c.in_ok-begin.ensures.begun in
    subst (λ (xs : List Held). (let o : OutView = record { log = c.args.out.now.log; jobs = xs } in IsActed c.args.who c.args.world.now (seen c.args.out.now) c.begin.new.self o c.args.power.now c.begin.new.power Acted.Event))
    (sym c.in_ok-push_job-in-Job.ensures)
    (acted_job c.args.who c.args.world.now c.begin.new.self (seen c.args.out.now) c.args.power.now c.begin.new.power c.requires c.in_ok-begin.ensures.steps c.in-Job.job is)

pub returns-in-RoundOver : goal.returns-in-RoundOver
returns-in-RoundOver c =
    let is = subst (λ b. IsBegun c.args.who c.args.world.now c.begin.new.self c.args.power.now c.begin.new.power (Ok b)) c.in-RoundOver.is c.in_ok-begin.ensures.begun in
    acted_over c.args.who c.args.world.now c.begin.new.self (seen c.args.out.now) c.args.power.now c.begin.new.power c.requires c.in_ok-begin.ensures.steps c.in-RoundOver.field-0 is

pub returns-in-PowerLost : goal.returns-in-PowerLost
returns-in-PowerLost c =
    let is = subst (λ b. IsBegun c.args.who c.args.world.now c.begin.new.self c.args.power.now c.begin.new.power (Ok b)) c.in-PowerLost.is c.in_ok-begin.ensures.begun in
    acted_lost c.args.who c.args.world.now c.begin.new.self (seen c.args.out.now) c.args.power.now c.begin.new.power c.requires c.in_ok-begin.ensures.steps is

pub unreachable-requires : goal.unreachable-requires
unreachable-requires c =
    let is = subst (λ b. IsBegun c.args.who c.args.world.now c.begin.new.self c.args.power.now c.begin.new.power (Ok b)) c.in-Busy.is c.in_ok-begin.ensures.begun in
    never_waits c.args.who c.args.world.now c.begin.new.self (seen c.args.out.now) c.args.power.now c.begin.new.power c.requires c.in-Busy.ino c.in-Busy.holder is

pub unreachable-requires-in-ScriptEnd : goal.unreachable-requires-in-ScriptEnd
unreachable-requires-in-ScriptEnd c =
    let is = subst (λ b. IsBegun c.args.who c.args.world.now c.begin.new.self c.args.power.now c.begin.new.power (Ok b)) c.in-ScriptEnd.is c.in_ok-begin.ensures.begun in
    never_ends c.args.who c.args.world.now c.begin.new.self (seen c.args.out.now) c.args.power.now c.begin.new.power c.requires is.1
