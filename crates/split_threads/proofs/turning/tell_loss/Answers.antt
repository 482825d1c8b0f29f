use Rattle.std.specs.Prelude.{true}
use Rattle.std.proofs.Common.{subst, sym}
use Rattle.thread_laws.specs.world_view_laws.Views.{WorldView}
use Rattle.thread_laws.specs.Moves.{MayLeave, next_hand}
use Rattle.thread_laws.specs.Works.{HasTold}
use Rattle.split_threads.specs.Rules.{gone_hand}
use Rattle.split_threads.specs.declared.turns.Held.{Held}
use Rattle.split_threads.proofs.Entered.{carried_is, gone_left, gone_tells, here_left, here_may}
use Rattle.split_threads.proofs.turning.tell_loss.Goals as goal

pub leave-requires-in-Here-clause-may : goal.leave-requires-in-Here-clause-may
leave-requires-in-Here-clause-may g c =
    let i = c.requires.0 in
    let v = c.requires.1 in
    let knows = c.in-Here.ensures.knows i v (carried_is c.args.turn.now.id i v c.args.pass.now c.enter.new.pass c.requires.2) in
    let w = c.in-Here.world in
    let told = c.each_answer_may_be_left.ensures.lost v w c.in-Here.power c.requires.4.0 knows c.requires.3 c.requires.4.1 c.requires.4.2 in
    let may = subst (λ (x : WorldView). MayLeave v w x c.in-Here.power c.in-Here.power) (sym c.lose.ensures) told.0 in
    here_may c.args.turn.now.id i v c.args.pass.now c.enter.new.pass c.requires.2 w c.in-Here.power c.in-Here.ensures.pass knows c.lose.new.self c.in-Here.power may

pub returns-in-Gone : goal.returns-in-Gone
returns-in-Gone g c i v steps outside some given few = (
  gone_hand v,
  gone_left c.args.turn.now.id i v c.args.pass.now c.enter.new.pass outside Held.Gone c.leave.new.pass c.in-Gone.ensures.pass c.leave.ensures,
  gone_tells c.each_answer_may_be_left.ensures.gone v,
)

pub returns-in-Here : goal.returns-in-Here
returns-in-Here g c i v steps outside some given few =
    let knows = c.in-Here.ensures.knows i v (carried_is c.args.turn.now.id i v c.args.pass.now c.enter.new.pass outside) in
    let w = c.in-Here.world in
    let told = c.each_answer_may_be_left.ensures.lost v w c.in-Here.power steps knows some given few in (
      next_hand v w c.lose.new.self,
      here_left c.args.turn.now.id i v c.args.pass.now c.enter.new.pass outside w c.in-Here.power c.in-Here.ensures.pass knows c.lose.new.self c.in-Here.power c.leave-in-Here.new.pass c.leave-in-Here.ensures,
      subst (λ (x : WorldView). HasTold v (next_hand v w x) true) (sym c.lose.ensures) told.1,
    )
