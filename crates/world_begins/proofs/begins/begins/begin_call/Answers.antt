use Rattle.world_parts.specs.Seen.{seen}
use Rattle.world_begins.proofs.Composing.{put_steps}
use Rattle.world_begins.proofs.Writing.{puts_some}
use Rattle.world_begins.proofs.begins.begins.begin_call.Goals as goal

pub begin_put-requires-clause-puts : goal.begin_put-requires-clause-puts
begin_put-requires-clause-puts c = puts_some c.in-Some._put.handle c.in-Some._put.at c.in-Some._put.bytes.now c.args.call c.in-Some.ensures

pub returns-in-Some-clause-steps : goal.returns-in-Some-clause-steps
returns-in-Some-clause-steps c =
    put_steps (seen c.args.p.now).start.mode c.in-Some._put.handle c.in-Some._put.at c.in-Some._put.bytes.now c.args.call c.args.power.now c.begin_put.new.power c.in-Some.ensures c.begin_put.ensures.steps
