use Rattle.std.proofs.Common.{arith, subst, sym}
use Rattle.std.specs.Prelude.{Bool}
use Rattle.thread_laws.specs.Moves.{next_hand}
use Rattle.thread_laws.specs.MovesLaws.{AreFewActs}
use Rattle.thread_laws.specs.Works.{HasEnded}
use Rattle.split_threads.specs.Rules.{gone_hand}
use Rattle.split_threads.specs.declared.turns.Held.{Held}
use Rattle.split_threads.proofs.Entered.{carried_is, gone_ends, gone_left, here_left, here_may, of_world, slot_here, usable_finished}
use Rattle.split_threads.proofs.turning.end_job.Goals as goal

pub finish-finished-requires-clause-usable : goal.finish-finished-requires-clause-usable
finish-finished-requires-clause-usable g c =
    let i = c.requires.0 in
    let v = c.requires.1 in
    let knows = c.in-Here.ensures.knows i v (carried_is c.args.turn.now.id i v c.args.pass.now c.enter.new.pass c.requires.2) in
    knows.world.usable

pub finish-finished-requires-clause-out : goal.finish-finished-requires-clause-out
finish-finished-requires-clause-out g c =
    let i = c.requires.0 in
    let v = c.requires.1 in
    let knows = c.in-Here.ensures.knows i v (carried_is c.args.turn.now.id i v c.args.pass.now c.enter.new.pass c.requires.2) in
    knows.world.lines_out

pub finish-finished-requires-clause-job : goal.finish-finished-requires-clause-job
finish-finished-requires-clause-job g c =
    let i = c.requires.0 in
    let v = c.requires.1 in
    let knows = c.in-Here.ensures.knows i v (carried_is c.args.turn.now.id i v c.args.pass.now c.enter.new.pass c.requires.2) in
    of_world c.each_answer_may_be_left.ensures.filled c.in-Here.world c.in-Here.power v c.args.job knows c.requires.3

pub finish-finished-requires-clause-slot : goal.finish-finished-requires-clause-slot
finish-finished-requires-clause-slot g c =
    let i = c.requires.0 in
    let v = c.requires.1 in
    let knows = c.in-Here.ensures.knows i v (carried_is c.args.turn.now.id i v c.args.pass.now c.enter.new.pass c.requires.2) in
    slot_here c.in-Here.world c.in-Here.power v c.args.slot knows c.requires.4

pub acts-acts-requires : goal.acts-acts-requires
acts-acts-requires g c =
    let i = c.requires.0 in
    let v = c.requires.1 in
    let knows = c.in-Here.ensures.knows i v (carried_is c.args.turn.now.id i v c.args.pass.now c.enter.new.pass c.requires.2) in
    usable_finished c.args.job c.args.slot c.in-Here.world c.finish-finished.new.self c.finish-finished.new.power c.finish-finished.result c.finish-finished.ensures.finished
    (of_world c.each_answer_may_be_left.ensures.filled c.in-Here.world c.in-Here.power v c.args.job knows c.requires.3) knows.world.usable

pub leave-requires-in-Here-clause-may : goal.leave-requires-in-Here-clause-may
leave-requires-in-Here-clause-may g c =
    let i = c.requires.0 in
    let v = c.requires.1 in
    let knows = c.in-Here.ensures.knows i v (carried_is c.args.turn.now.id i v c.args.pass.now c.enter.new.pass c.requires.2) in
    let few : AreFewActs c.finish-finished.new.self = omega (arith, c.acts-acts.ensures.acts, c.acts-acts.ensures.most) in
    let left = c.each_answer_may_be_left.ensures.finished v c.in-Here.world c.finish-finished.new.self c.in-Here.power c.finish-finished.new.power c.args.job c.args.slot c.finish-finished.result knows c.requires.3 c.finish-finished.ensures.steps c.finish-finished.ensures.off few c.finish-finished.ensures.finished in
    here_may c.args.turn.now.id i v c.args.pass.now c.enter.new.pass c.requires.2 c.in-Here.world c.in-Here.power c.in-Here.ensures.pass knows c.finish-finished.new.self c.finish-finished.new.power left.0

pub returns-in-Gone : goal.returns-in-Gone
returns-in-Gone g c i v outside has below = (
  gone_hand v,
  gone_left c.args.turn.now.id i v c.args.pass.now c.enter.new.pass outside Held.Gone c.leave.new.pass c.in-Gone.ensures.pass c.leave.ensures,
  gone_ends c.each_answer_may_be_left.ensures.gone v c.args.slot c.args.job.draft,
)

pub returns-in-Here : goal.returns-in-Here
returns-in-Here g c i v outside has below =
    let knows = c.in-Here.ensures.knows i v (carried_is c.args.turn.now.id i v c.args.pass.now c.enter.new.pass outside) in
    let few : AreFewActs c.finish-finished.new.self = omega (arith, c.acts-acts.ensures.acts, c.acts-acts.ensures.most) in
    let left = c.each_answer_may_be_left.ensures.finished v c.in-Here.world c.finish-finished.new.self c.in-Here.power c.finish-finished.new.power c.args.job c.args.slot c.finish-finished.result knows has c.finish-finished.ensures.steps c.finish-finished.ensures.off few c.finish-finished.ensures.finished in (
      next_hand v c.in-Here.world c.finish-finished.new.self,
      here_left c.args.turn.now.id i v c.args.pass.now c.enter.new.pass outside c.in-Here.world c.in-Here.power c.in-Here.ensures.pass knows c.finish-finished.new.self c.finish-finished.new.power c.leave-in-Here.new.pass c.leave-in-Here.ensures,
      subst (λ (b : Bool). HasEnded v (next_hand v c.in-Here.world c.finish-finished.new.self) c.args.slot c.args.job.draft b) (sym c.has_returned.ensures) left.1,
    )
