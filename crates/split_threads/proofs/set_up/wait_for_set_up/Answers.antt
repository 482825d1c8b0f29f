use Rattle.std.proofs.Common.{subst}
use Rattle.split_threads.specs.declared.set_up.Look.{Look}
use Rattle.split_threads.proofs.Showing.{HasLookedOnce, looked_more, looked_then}
use Rattle.split_threads.proofs.set_up.wait_for_set_up.Goals as goal

pub look_once-requires : goal.look_once-requires
look_once-requires g c =
    let u = c.loop.invariant c.requires.0 c.requires.1 c.requires.2 c.requires.3 c.requires.4 in
    (c.requires.0, u.0, u.1, u.2.none_out, u.2.none_begun)

pub returns-in-SetUp : goal.returns-in-SetUp
returns-in-SetUp g c =
    looked_then c.args.turn.now c.args.pass.now c.loop.pass c.look_once.new.pass Look.SetUp c.loop.invariant
    (subst (λ (l : Look). HasLookedOnce c.args.turn.now c.loop.pass c.look_once.new.pass l) c.in-SetUp.is c.look_once.ensures)

pub returns-in-Stopped : goal.returns-in-Stopped
returns-in-Stopped g c =
    looked_then c.args.turn.now c.args.pass.now c.loop.pass c.look_once.new.pass Look.Stopped c.loop.invariant
    (subst (λ (l : Look). HasLookedOnce c.args.turn.now c.loop.pass c.look_once.new.pass l) c.in-Stopped.is c.look_once.ensures)

pub loop-preserved : goal.loop-preserved
loop-preserved g c = looked_more c.args.turn.now c.args.pass.now c.loop.pass c.look_once.new.pass c.look_once.result c.loop.invariant c.look_once.ensures
