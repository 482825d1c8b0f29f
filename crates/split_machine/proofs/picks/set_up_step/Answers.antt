use Rattle.std.specs.Prelude.{false, true}
use Rattle.std.proofs.Common.{subst}
use Rattle.posix_types.specs.declared.call.Who.{Who}
use Rattle.split_machine.specs.Events.{IsAbleBy, seen}
use Rattle.split_machine.proofs.Looks.{set_up_checks}
use Rattle.split_machine.proofs.Steps.{set_up_acted_ok}
use Rattle.split_machine.proofs.picks.set_up_step.Goals as goal

pub caller_event-requires : goal.caller_event-requires
caller_event-requires c = record { under_way = c.requires.under_way; set_up = tt; able = subst (IsAbleBy c.args.world.now Who.Setup) c.if-able.true c.look-able.ensures.able }

pub checkpoint-requires : goal.checkpoint-requires
checkpoint-requires c =
    let kept = subst (IsAbleBy c.args.world.now Who.Setup) c.if-able.false c.look-able.ensures.able in
    let must = set_up_checks c.args.world.now (seen c.args.out.now) c.requires.under_way.between c.requires.not_done kept in
    record { under_way = c.requires.under_way; over = must.over; none_out = must.none_out; left = must.left }

pub returns-then-able : goal.returns-then-able
returns-then-able c =
    set_up_acted_ok c.args.world.now c.caller_event.new.world (seen c.args.out.now) (seen c.caller_event.new.out) c.args.power.now c.caller_event.new.power c.caller_event.result c.caller_event.ensures
