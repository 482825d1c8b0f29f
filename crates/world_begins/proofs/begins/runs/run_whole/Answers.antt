use Rattle.std.proofs.Common.{ap, sym, subst, inr}
use Rattle.std.specs.Prelude.{Ok, Option}
use Rattle.posix_types.specs.declared.call.Call.{Call}
use Rattle.world_parts.specs.world_view_laws.Begins.{Publishes}
use Rattle.world_parts.specs.world_view_laws.Views.{WorldView}
use Rattle.world_parts.specs.Seen.{seen}
use Rattle.world_begins.specs.Turns.{IsPublishedFirst}
use Rattle.world_begins.proofs.Turning.{one_act}
use Rattle.world_begins.specs.Runs.{HasRoom}
use Rattle.world_begins.proofs.Calling.{room_ended}
use Rattle.world_begins.proofs.Composing.{begun_first, both_steps, dropped, first_steps, later_step, published_again, room_then}
use Rattle.world_begins.proofs.begins.runs.run_whole.Goals as goal

pub end_round-requires : goal.end_round-requires
end_round-requires c = one_act c.args.p.now c.args.who c.args.call c.requires.turn

pub returns-in-Some-clause-kept : goal.returns-in-Some-clause-kept
returns-in-Some-clause-kept c usable =
    (room_ended c.args.p.now c.args.who c.args.call c.requires.turn c.in-Some.need c.in-Some.room c.in-Some.ensures c.end_round.new.p c.end_round.ensures c.args.power.now c.requires.on).0

pub returns-in-Some-clause-begun : goal.returns-in-Some-clause-begun
returns-in-Some-clause-begun c =
    inr (room_ended c.args.p.now c.args.who c.args.call c.requires.turn c.in-Some.need c.in-Some.room c.in-Some.ensures c.end_round.new.p c.end_round.ensures c.args.power.now c.requires.on).1

pub run_now-requires-clause-enough : goal.run_now-requires-clause-enough
run_now-requires-clause-enough c =
    let first = subst (λ (o : Option Call). IsPublishedFirst c.args.who c.args.call c.args.p.now c.publish_first.new.p c.publish_first.new.power (Ok o)) c.in-Ok-Some.field-0-is c.in-Ok-Some.ensures.first in
    subst (λ (call : Call). HasRoom (seen c.publish_first.new.p) c.args.who call) (sym first.0)
    (room_then (seen c.args.p.now) (seen c.publish_first.new.p) c.args.who c.args.call first.1.view_is c.in_default.ensures)

pub run_now-requires-clause-published : goal.run_now-requires-clause-published
run_now-requires-clause-published c =
    let first = subst (λ (o : Option Call). IsPublishedFirst c.args.who c.args.call c.args.p.now c.publish_first.new.p c.publish_first.new.power (Ok o)) c.in-Ok-Some.field-0-is c.in-Ok-Some.ensures.first in
    subst (λ (call : Call). Publishes c.args.who call (seen c.publish_first.new.p) (seen c.publish_first.new.p)) (sym first.0)
    (published_again (seen c.args.p.now) (seen c.publish_first.new.p) c.args.who c.args.call first.1.tables (ap (λ (w : WorldView). w.claims) first.1.view_is) first.1.published)

pub returns-in-Ok-Some-clause-begun : goal.returns-in-Ok-Some-clause-begun
returns-in-Ok-Some-clause-begun c =
    let first = subst (λ (o : Option Call). IsPublishedFirst c.args.who c.args.call c.args.p.now c.publish_first.new.p c.publish_first.new.power (Ok o)) c.in-Ok-Some.field-0-is c.in-Ok-Some.ensures.first in
    begun_first (seen c.args.p.now) (seen c.publish_first.new.p) (seen c.run_now.new.p) c.args.who c.args.call c.requires.plain c.requires.turn.calls.begins first.1.view_is first.1.tables first.1.staging first.1.stay
    c.args.power.now c.publish_first.new.power c.run_now.new.power (later_step _ c.args.power.now c.publish_first.new.power c.run_now.new.power c.publish_first.ensures.steps) c.run_now.result c.run_now.ensures.begun

pub returns-in-Err-clause-kept : goal.returns-in-Err-clause-kept
returns-in-Err-clause-kept c usable = dropped (seen c.args.p.now) (seen c.publish_first.new.p) c.publish_first.new.power c.in-Err.ensures.first usable _

pub returns-in-Ok-Some-clause-steps : goal.returns-in-Ok-Some-clause-steps
returns-in-Ok-Some-clause-steps c =
    let first = subst (λ (o : Option Call). IsPublishedFirst c.args.who c.args.call c.args.p.now c.publish_first.new.p c.publish_first.new.power (Ok o)) c.in-Ok-Some.field-0-is c.in-Ok-Some.ensures.first in
    both_steps (seen c.args.p.now).start.mode c.args.call _ c.args.power.now c.publish_first.new.power c.run_now.new.power first.0 c.publish_first.ensures.steps c.run_now.ensures.steps

pub returns-in-Ok-None-clause-steps : goal.returns-in-Ok-None-clause-steps
returns-in-Ok-None-clause-steps c = first_steps (seen c.args.p.now).start.mode c.args.call c.args.power.now c.publish_first.new.power c.publish_first.ensures.steps
