use Rattle.std.specs.Prelude.{Ok}
use Rattle.std.proofs.Common.{◌∙◌, ap, arith, subst}
use Rattle.thread_laws.specs.world_view_laws.k_journal.declared.outcomes.Commit.{Commit}
use Rattle.thread_laws.specs.world_view_laws.Views.{WorldView}
use Rattle.split_world.specs.world_parts.Answers.{IsCheckpoint}
use Rattle.thread_laws.specs.MovesLaws.{AreFewActs}
use Rattle.split_threads.proofs.Ending.{lost_turns}
use Rattle.split_threads.proofs.closes.turned_by.Goals as goal

pub acts-acts-requires : goal.acts-acts-requires
acts-acts-requires c =
    let has = c.requires.2 in
    let loses = subst (λ (k : Commit). IsCheckpoint c.requires.0 c.args.world c.args.power (Ok k)) c.in-PowerLost.is has.answer in
    ap (λ (w : WorldView). w.usable) loses.new_is ∙ has.in_round.usable

pub crash_bare-requires : goal.crash_bare-requires
crash_bare-requires c =
    let has = c.requires.2 in
    let loses = subst (λ (k : Commit). IsCheckpoint c.requires.0 c.args.world c.args.power (Ok k)) c.in-PowerLost.is has.answer in
    let few : AreFewActs c.args.world = omega (arith, c.acts-acts.ensures.acts, c.acts-acts.ensures.most) in
    let may = c.a_round_ends_as_it_may.ensures.lost c.requires.0 c.args.world c.requires.1 c.args.power has.in_round has.awake has.none_out has.steps loses few in
    record { usable = ap (λ (w : WorldView). w.usable) loses.new_is ∙ has.in_round.usable; may = may.0 }

pub returns-in-Done : goal.returns-in-Done
returns-in-Done c w before has =
    let next = subst (λ (k : Commit). IsCheckpoint w c.args.world c.args.power (Ok k)) c.in-Done.is has.answer in
    record { next = next; steps = has.steps; none_out = has.none_out }

pub returns-in-PowerLost : goal.returns-in-PowerLost
returns-in-PowerLost c w before has =
    let loses = subst (λ (k : Commit). IsCheckpoint w c.args.world c.args.power (Ok k)) c.in-PowerLost.is has.answer in
    let few : AreFewActs c.args.world = omega (arith, c.acts-acts.ensures.acts, c.acts-acts.ensures.most) in
    lost_turns c.a_round_ends_as_it_may.ensures.lost w c.args.world before c.args.power c.crash_bare.result has.in_round has.awake has.none_out has.steps loses few c.crash_bare.ensures
