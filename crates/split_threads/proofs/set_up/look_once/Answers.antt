use Rattle.thread_laws.specs.Moves.{next_hand}
use Rattle.split_threads.specs.Rules.{gone_hand}
use Rattle.split_threads.specs.declared.turns.Held.{Held}
use Rattle.split_threads.proofs.Entered.{carried_is, gone_left, here_left, here_may}
use Rattle.split_threads.proofs.Showing.{looked_gone, looked_here}
use Rattle.split_threads.proofs.set_up.look_once.Goals as goal

pub look_at-look-requires : goal.look_at-look-requires
look_at-look-requires g c =
    let i = c.requires.0 in
    let v = c.requires.1 in
    let knows = c.in-Here.ensures.knows i v (carried_is c.args.turn.now.id i v c.args.pass.now c.enter.new.pass c.requires.2) in
    knows.world.usable

pub leave-requires-in-Here-clause-may : goal.leave-requires-in-Here-clause-may
leave-requires-in-Here-clause-may g c =
    let i = c.requires.0 in
    let v = c.requires.1 in
    let knows = c.in-Here.ensures.knows i v (carried_is c.args.turn.now.id i v c.args.pass.now c.enter.new.pass c.requires.2) in
    let left = looked_here c.each_answer_may_be_left.ensures.found v c.in-Here.world c.in-Here.power c.look_at-look.result knows c.requires.3 c.requires.4 c.look_at-look.ensures in
    here_may c.args.turn.now.id i v c.args.pass.now c.enter.new.pass c.requires.2 c.in-Here.world c.in-Here.power c.in-Here.ensures.pass knows c.in-Here.world c.in-Here.power left.0

pub returns-in-Gone : goal.returns-in-Gone
returns-in-Gone g c i v outside none_out none_begun =
    let looked = looked_gone v none_out none_begun in (
      gone_hand v,
      gone_left c.args.turn.now.id i v c.args.pass.now c.enter.new.pass outside Held.Gone c.leave.new.pass c.in-Gone.ensures.pass c.leave.ensures,
      looked.0,
      looked.1,
    )

pub returns-in-Here : goal.returns-in-Here
returns-in-Here g c i v outside none_out none_begun =
    let knows = c.in-Here.ensures.knows i v (carried_is c.args.turn.now.id i v c.args.pass.now c.enter.new.pass outside) in
    let left = looked_here c.each_answer_may_be_left.ensures.found v c.in-Here.world c.in-Here.power c.look_at-look.result knows none_out none_begun c.look_at-look.ensures in (
      next_hand v c.in-Here.world c.in-Here.world,
      here_left c.args.turn.now.id i v c.args.pass.now c.enter.new.pass outside c.in-Here.world c.in-Here.power c.in-Here.ensures.pass knows c.in-Here.world c.in-Here.power c.leave-in-Here.new.pass c.leave-in-Here.ensures,
      left.1,
      left.2,
    )
