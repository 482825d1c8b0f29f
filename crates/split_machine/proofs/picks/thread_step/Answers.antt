use Rattle.std.specs.Prelude.{◌≡◌, ℕ, List, [], false, true, refl}
use Rattle.std.proofs.Common.{◌∙◌, subst, sym}
use Rattle.run_laws.proofs.Left.{all_return, nobody_runs}
use Rattle.schedule.specs.Picking.{PicksNext}
use Rattle.split_machine.specs.Events.{HaveEnded, seen}
use Rattle.split_machine.proofs.Steps.{thread_acted}
use Rattle.split_machine.proofs.picks.thread_step.Goals as goal

pub look_round-requires : goal.look_round-requires
look_round-requires c = record {
  usable = c.requires.under_way.between.usable;
  awake = c.requires.under_way.between.awake;
  next = c.requires.under_way.between.next;
}

pub returns-then-all : goal.returns-then-all
returns-then-all c =
    (refl, refl, refl, refl, all_return c.args.world.now (seen c.args.out.now) c.requires.under_way.between c.requires.done (subst (HaveEnded c.args.world.now) c.if-all.true c.in_ok-numbers.ensures.ended))

pub checkpoint-requires : goal.checkpoint-requires
checkpoint-requires c =
    let left = subst (HaveEnded c.args.world.now) c.if-all.false c.in_ok-numbers.ensures.ended in
    let none : c.in_ok-numbers.numbers.items ≡ [] = sym c.deref.ensures.value ∙ c.has_none.ensures.none c.if-has_none.true in
    let must = nobody_runs c.args.world.now (seen c.args.out.now) c.requires.under_way.between c.requires.done (c.in_ok-numbers.ensures.runnable.others none) left.0 left.1 in
    record { under_way = c.requires.under_way; over = must.over; none_out = must.none_out; left = must.left }

pub returns : goal.returns
returns c =
    let picks = subst (λ (xs : List ℕ). PicksNext xs c.args.picker.now c.pick-n.new.self c.pick-n.result) c.deref-2.ensures.value c.pick-n.ensures.picks in
    thread_acted c.args.world.now c.caller_event.new.world (seen c.args.out.now) (seen c.caller_event.new.out) c.args.power.now c.caller_event.new.power c.requires.under_way.between c.requires.done
    c.in_ok-numbers.numbers.items c.in_ok-numbers.ensures.runnable c.args.picker.now c.pick-n.new.self c.pick-n.result picks c.in_ok-caller_event.field-0 c.in_ok-caller_event.ensures
