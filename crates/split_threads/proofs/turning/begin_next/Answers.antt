use Rattle.std.proofs.Common.{arith, subst, sym}
use Rattle.thread_laws.specs.Moves.{next_hand}
use Rattle.thread_laws.specs.MovesLaws.{AreFewActs}
use Rattle.thread_laws.specs.Works.{HasLooked}
use Rattle.thread_laws.specs.declared.works.Next.{Next}
use Rattle.split_threads.specs.Rules.{gone_hand}
use Rattle.split_threads.specs.declared.turns.Held.{Held}
use Rattle.split_threads.proofs.Entered.{begun_left, carried_is, gone_left, gone_looks, here_left, here_may, usable_begun}
use Rattle.split_threads.proofs.turning.begin_next.Goals as goal

pub begin-requires-clause-usable : goal.begin-requires-clause-usable
begin-requires-clause-usable g c =
    let i = c.requires.0 in
    let v = c.requires.1 in
    let knows = c.in-Here.ensures.knows i v (carried_is c.args.turn.now.id i v c.args.pass.now c.enter.new.pass c.requires.2) in
    knows.world.usable

pub begin-requires-clause-out : goal.begin-requires-clause-out
begin-requires-clause-out g c =
    let i = c.requires.0 in
    let v = c.requires.1 in
    let knows = c.in-Here.ensures.knows i v (carried_is c.args.turn.now.id i v c.args.pass.now c.enter.new.pass c.requires.2) in
    knows.world.lines_out

pub begin-requires-clause-none : goal.begin-requires-clause-none
begin-requires-clause-none g c =
    let i = c.requires.0 in
    let v = c.requires.1 in
    let knows = c.in-Here.ensures.knows i v (carried_is c.args.turn.now.id i v c.args.pass.now c.enter.new.pass c.requires.2) in
    (c.each_answer_may_be_left.ensures.idle c.in-Here.world c.in-Here.power v c.args.who knows c.requires.3).0

pub begin-requires-clause-set_up : goal.begin-requires-clause-set_up
begin-requires-clause-set_up g c =
    let i = c.requires.0 in
    let v = c.requires.1 in
    let knows = c.in-Here.ensures.knows i v (carried_is c.args.turn.now.id i v c.args.pass.now c.enter.new.pass c.requires.2) in
    (c.each_answer_may_be_left.ensures.idle c.in-Here.world c.in-Here.power v c.args.who knows c.requires.3).1

pub acts-acts-requires : goal.acts-acts-requires
acts-acts-requires g c =
    let i = c.requires.0 in
    let v = c.requires.1 in
    let knows = c.in-Here.ensures.knows i v (carried_is c.args.turn.now.id i v c.args.pass.now c.enter.new.pass c.requires.2) in
    usable_begun c.args.who c.in-Here.world c.begin.new.self c.in-Here.power c.begin.new.power c.in-Ok.begun c.in-Ok.ensures.begun knows.world.usable

pub leave-requires-in-Ok-clause-may : goal.leave-requires-in-Ok-clause-may
leave-requires-in-Ok-clause-may g c =
    let i = c.requires.0 in
    let v = c.requires.1 in
    let knows = c.in-Here.ensures.knows i v (carried_is c.args.turn.now.id i v c.args.pass.now c.enter.new.pass c.requires.2) in
    let few : AreFewActs c.begin.new.self = omega (arith, c.acts-acts.ensures.acts, c.acts-acts.ensures.most) in
    let left = begun_left c.each_answer_may_be_left.ensures.begun v c.args.who c.in-Here.world c.begin.new.self c.in-Here.power c.begin.new.power c.in-Ok.begun knows c.requires.3 c.begin.ensures.steps few c.in-Ok.ensures.begun in
    here_may c.args.turn.now.id i v c.args.pass.now c.enter.new.pass c.requires.2 c.in-Here.world c.in-Here.power c.in-Here.ensures.pass knows c.begin.new.self c.begin.new.power left.0

pub returns-in-Gone : goal.returns-in-Gone
returns-in-Gone g c i v outside idle = (
  gone_hand v,
  gone_left c.args.turn.now.id i v c.args.pass.now c.enter.new.pass outside Held.Gone c.leave.new.pass c.in-Gone.ensures.pass c.leave.ensures,
  gone_looks c.each_answer_may_be_left.ensures.gone v idle.none_begun idle.none_out,
)

pub returns-in-Err : goal.returns-in-Err
returns-in-Err g c i v outside idle = (
  gone_hand v,
  gone_left c.args.turn.now.id i v c.args.pass.now c.enter.new.pass outside (Held.Here c.in-Here.world c.in-Here.power) c.leave-in-Err.new.pass c.in-Here.ensures.pass c.leave-in-Err.ensures,
  gone_looks c.each_answer_may_be_left.ensures.gone v idle.none_begun idle.none_out,
)

pub returns-in-Ok : goal.returns-in-Ok
returns-in-Ok g c i v outside idle =
    let knows = c.in-Here.ensures.knows i v (carried_is c.args.turn.now.id i v c.args.pass.now c.enter.new.pass outside) in
    let few : AreFewActs c.begin.new.self = omega (arith, c.acts-acts.ensures.acts, c.acts-acts.ensures.most) in
    let left = begun_left c.each_answer_may_be_left.ensures.begun v c.args.who c.in-Here.world c.begin.new.self c.in-Here.power c.begin.new.power c.in-Ok.begun knows idle c.begin.ensures.steps few c.in-Ok.ensures.begun in (
      next_hand v c.in-Here.world c.begin.new.self,
      here_left c.args.turn.now.id i v c.args.pass.now c.enter.new.pass outside c.in-Here.world c.in-Here.power c.in-Here.ensures.pass knows c.begin.new.self c.begin.new.power c.leave-in-Ok.new.pass c.leave-in-Ok.ensures,
      subst (λ (n : Next). HasLooked v (next_hand v c.in-Here.world c.begin.new.self) n) (sym c.next_of-next.ensures) left.1,
    )
