use Rattle.thread_laws.specs.Moves.{next_hand}
use Rattle.split_threads.specs.Rules.{gone_hand}
use Rattle.split_threads.specs.declared.turns.Held.{Held}
use Rattle.split_threads.proofs.Entered.{capacity_here, carried_is, gone_drops, gone_left, here_left, here_may, of_world}
use Rattle.split_threads.proofs.turning.drop_job.Goals as goal

pub give_up-requires-clause-usable : goal.give_up-requires-clause-usable
give_up-requires-clause-usable g c =
    let i = c.requires.0 in
    let v = c.requires.1 in
    let knows = c.in-Here.ensures.knows i v (carried_is c.args.turn.now.id i v c.args.pass.now c.enter.new.pass c.requires.2) in
    knows.world.usable

pub give_up-requires-clause-out : goal.give_up-requires-clause-out
give_up-requires-clause-out g c =
    let i = c.requires.0 in
    let v = c.requires.1 in
    let knows = c.in-Here.ensures.knows i v (carried_is c.args.turn.now.id i v c.args.pass.now c.enter.new.pass c.requires.2) in
    knows.world.lines_out

pub give_up-requires-clause-job : goal.give_up-requires-clause-job
give_up-requires-clause-job g c =
    let i = c.requires.0 in
    let v = c.requires.1 in
    let knows = c.in-Here.ensures.knows i v (carried_is c.args.turn.now.id i v c.args.pass.now c.enter.new.pass c.requires.2) in
    of_world c.each_answer_may_be_left.ensures.filled c.in-Here.world c.in-Here.power v c.args.job knows c.requires.3

pub give_up-requires-clause-capacity : goal.give_up-requires-clause-capacity
give_up-requires-clause-capacity g c =
    let i = c.requires.0 in
    let v = c.requires.1 in
    let knows = c.in-Here.ensures.knows i v (carried_is c.args.turn.now.id i v c.args.pass.now c.enter.new.pass c.requires.2) in
    capacity_here c.in-Here.world c.in-Here.power v c.args.full.capacity knows c.requires.5

pub leave-requires-in-Here-clause-may : goal.leave-requires-in-Here-clause-may
leave-requires-in-Here-clause-may g c =
    let i = c.requires.0 in
    let v = c.requires.1 in
    let knows = c.in-Here.ensures.knows i v (carried_is c.args.turn.now.id i v c.args.pass.now c.enter.new.pass c.requires.2) in
    let left = c.each_answer_may_be_left.ensures.given_up v c.in-Here.world c.give_up.new.self c.in-Here.power c.args.job c.args.full knows c.requires.3 c.give_up.ensures.given in
    here_may c.args.turn.now.id i v c.args.pass.now c.enter.new.pass c.requires.2 c.in-Here.world c.in-Here.power c.in-Here.ensures.pass knows c.give_up.new.self c.in-Here.power left.0

pub returns-in-Gone-clause-dropped : goal.returns-in-Gone-clause-dropped
returns-in-Gone-clause-dropped g c i v outside has capacity = (
  gone_hand v,
  gone_left c.args.turn.now.id i v c.args.pass.now c.enter.new.pass outside Held.Gone c.leave.new.pass c.in-Gone.ensures.pass c.leave.ensures,
  gone_drops c.each_answer_may_be_left.ensures.gone v,
)

pub returns-in-Here-clause-dropped : goal.returns-in-Here-clause-dropped
returns-in-Here-clause-dropped g c i v outside has capacity =
    let knows = c.in-Here.ensures.knows i v (carried_is c.args.turn.now.id i v c.args.pass.now c.enter.new.pass outside) in
    let left = c.each_answer_may_be_left.ensures.given_up v c.in-Here.world c.give_up.new.self c.in-Here.power c.args.job c.args.full knows has c.give_up.ensures.given in (
      next_hand v c.in-Here.world c.give_up.new.self,
      here_left c.args.turn.now.id i v c.args.pass.now c.enter.new.pass outside c.in-Here.world c.in-Here.power c.in-Here.ensures.pass knows c.give_up.new.self c.in-Here.power c.leave-in-Here.new.pass c.leave-in-Here.ensures,
      left.1,
    )
