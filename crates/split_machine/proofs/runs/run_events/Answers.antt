use Rattle.std.specs.Prelude.{Option, Some}
use Rattle.std.proofs.Common.{ap, ◌∙◌, subst}
use Rattle.split_machine.specs.declared.outstanding.Acted.{Acted}
use Rattle.split_machine.specs.Events.{IsStepped, seen}
use Rattle.split_machine.proofs.Loop.{all_comes, led_first, lost_comes, off_comes, off_ends, off_now, reached_at_first, turn_led, turn_reached}
use Rattle.split_machine.proofs.runs.run_events.Goals as goal

pub events-init : goal.events-init
events-init c = record {
  reached = reached_at_first c.args.world.now c.requires.first (seen c.args.out.now) c.requires.none c.args.power.now;
  led = λ order far. led_first c.args.world.now c.requires.first (seen c.args.out.now) c.requires.none c.args.picker.now c.args.cut order far;
}

pub returns-then-not-on-clause-ends : goal.returns-then-not-on-clause-ends
returns-then-not-on-clause-ends c =
    off_ends c.args.world.now c.args.picker.now c.args.cut c.args.power.now c.events.world (seen c.events.out) c.events.picker c.events.left c.events.power c.events.invariant.reached c.events.invariant.led
    (off_now c.on.result c.events.power c.on.ensures c.if-not-on.true)

pub returns-then-not-on-clause-comes : goal.returns-then-not-on-clause-comes
returns-then-not-on-clause-comes c order far =
    off_comes c.args.world.now c.args.picker.now c.args.cut c.args.power.now c.events.world (seen c.events.out) c.events.picker c.events.left c.events.power c.events.invariant.reached c.events.invariant.led
    (off_now c.on.result c.events.power c.on.ensures c.if-not-on.true) (c.is_cut.ensures.more c.if-is_cut.false) order far

pub returns-in_default-clause-comes : goal.returns-in_default-clause-comes
returns-in_default-clause-comes c order far =
    let is = subst (λ (o : Option Acted). IsStepped c.open_round.new.world (seen c.open_round.new.out) c.events.picker c.step.new.world (seen c.step.new.out) c.step.new.picker c.events.power c.step.new.power o) c.in_default.is c.in_ok-acted.ensures in
    all_comes c.args.world.now c.args.picker.now c.args.cut c.args.power.now c.events.world (seen c.events.out) c.events.picker c.events.left c.events.power c.events.invariant.reached c.events.invariant.led c.open_round.new.world (seen c.open_round.new.out) c.in_ok-open_round.ensures c.step.new.world (seen c.step.new.out) c.step.new.picker c.step.new.power (c.is_cut.ensures.more c.if-is_cut.false) is order far

pub returns-then-has_lost-clause-comes : goal.returns-then-has_lost-clause-comes
returns-then-has_lost-clause-comes c order far =
    let is = subst (λ (o : Option Acted). IsStepped c.open_round.new.world (seen c.open_round.new.out) c.events.picker c.step.new.world (seen c.step.new.out) c.step.new.picker c.events.power c.step.new.power o) (c.in-Some.is ∙ ap (λ (a : Acted). Some a) (c.has_lost.ensures.yes c.if-has_lost.true)) c.in_ok-acted.ensures in
    lost_comes c.args.world.now c.args.picker.now c.args.cut c.args.power.now c.events.world (seen c.events.out) c.events.picker c.events.left c.events.power c.events.invariant.reached c.events.invariant.led c.open_round.new.world (seen c.open_round.new.out) c.in_ok-open_round.ensures c.step.new.world (seen c.step.new.out) c.step.new.picker c.step.new.power (c.is_cut.ensures.more c.if-is_cut.false) is order far

pub events-preserved : goal.events-preserved
events-preserved c =
    let is = subst (λ (o : Option Acted). IsStepped c.open_round.new.world (seen c.open_round.new.out) c.events.picker c.step.new.world (seen c.step.new.out) c.step.new.picker c.events.power c.step.new.power o) c.in-Some.is c.in_ok-acted.ensures in
    let lasts = c.has_lost.ensures.no c.if-has_lost.false in
    record {
      reached = turn_reached c.args.world.now c.args.picker.now c.args.cut c.args.power.now c.events.world (seen c.events.out) c.events.picker c.events.left c.events.power c.events.invariant.reached c.events.invariant.led c.open_round.new.world (seen c.open_round.new.out) c.in_ok-open_round.ensures c.step.new.world (seen c.step.new.out) c.step.new.picker c.step.new.power c.in-Some.acted lasts is;
      led = turn_led c.args.world.now c.args.picker.now c.args.cut c.args.power.now c.events.world (seen c.events.out) c.events.picker c.events.left c.events.power c.events.invariant.reached c.events.invariant.led c.open_round.new.world (seen c.open_round.new.out) c.in_ok-open_round.ensures c.step.new.world (seen c.step.new.out) c.step.new.picker c.step.new.power c.in-Some.acted lasts is c.left_after-left.result c.left_after-left.ensures;
    }
