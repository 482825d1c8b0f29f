use Rattle.std.specs.Prelude.{Ok, Option, IsSome}
use Rattle.std.proofs.Common.{◌∙◌, sym, subst}
use Rattle.run_laws.specs.round_log.Rounds.{RoundView}
use Rattle.run_laws.specs.world_view_laws.Rounds.{MayCheckpoint}
use Rattle.run_laws.proofs.Checks.{may_check}
use Rattle.split_world.specs.world_parts.Answers.{IsCheckpoint}
use Rattle.split_machine.specs.Events.{seen}
use Rattle.split_machine.proofs.Begins.{none_some}
use Rattle.split_machine.proofs.Opened.{can_check, checked_out}
use Rattle.split_machine.proofs.Steps.{check_lost, checked}
use Rattle.split_machine.proofs.rounds.checkpoint.Goals as goal

pub unreachable-requires : goal.unreachable-requires
unreachable-requires c = none_some RoundView (subst (λ (o : Option RoundView). IsSome o) (sym c.take.ensures.value ∙ c.in_default.is) c.requires.under_way.log)

pub checkpoint-requires : goal.checkpoint-requires
checkpoint-requires c =
    let can = can_check c.args.world.now (seen c.args.out.now) c.args.power.now c.requires.under_way c.requires.over c.requires.none_out c.in-Some.log (sym c.take.ensures.value ∙ c.in-Some.is) in
    record {
      usable = can.between.usable;
      may = subst (MayCheckpoint c.args.world.now) (sym c.close.ensures) (may_check c.args.world.now (seen c.args.out.now) c.in-Some.log can);
    }

pub returns-in-Done : goal.returns-in-Done
returns-in-Done c =
    let can = can_check c.args.world.now (seen c.args.out.now) c.args.power.now c.requires.under_way c.requires.over c.requires.none_out c.in-Some.log (sym c.take.ensures.value ∙ c.in-Some.is) in
    checked c.args.world.now c.checkpoint.new.self (seen c.args.out.now) _ c.args.power.now c.checkpoint.new.power c.in-Some.log can c.requires.left c.in_ok-checkpoint.ensures.steps (checked_out _ _ c.take.ensures.after c.requires.none_out)
    (subst (λ b. IsCheckpoint c.args.world.now c.checkpoint.new.self c.checkpoint.new.power (Ok b)) c.in-Done.is c.in_ok-checkpoint.ensures.answer)

pub returns-in-PowerLost : goal.returns-in-PowerLost
returns-in-PowerLost c =
    let can = can_check c.args.world.now (seen c.args.out.now) c.args.power.now c.requires.under_way c.requires.over c.requires.none_out c.in-Some.log (sym c.take.ensures.value ∙ c.in-Some.is) in
    check_lost c.args.world.now c.checkpoint.new.self (seen c.args.out.now) _ c.args.power.now c.checkpoint.new.power c.in-Some.log can c.requires.left c.in_ok-checkpoint.ensures.steps (checked_out _ _ c.take.ensures.after c.requires.none_out)
    (subst (λ b. IsCheckpoint c.args.world.now c.checkpoint.new.self c.checkpoint.new.power (Ok b)) c.in-PowerLost.is c.in_ok-checkpoint.ensures.answer)
