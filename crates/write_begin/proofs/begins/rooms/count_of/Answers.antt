use Rattle.std.proofs.Common.{◌/◌, arith}
use Rattle.write_plan.specs.eof_laws.block_io.Overwrites.{blocks_reached}
use Rattle.write_begin.proofs.Plans.{counted, stages_some}
use Rattle.write_begin.proofs.begins.rooms.count_of.Goals as goal

pub returns-in-Some : goal.returns-in-Some
returns-in-Some c =
    let count = counted (c.args.target.start / 4096) (blocks_reached c.args.target.start c.args.len) c.args.plan.staged c.requires.plan (c.in-Some.field-0-0, c.in-Some.count) c.in-Some.is in
    let some = c.requires.some in
    let most = c.requires.most in
    record { count = count; least = omega (arith, count, some); most = omega (arith, count, most) }

pub returns-in-None : goal.returns-in-None
returns-in-None c = absurd (stages_some (c.args.target.start / 4096) (blocks_reached c.args.target.start c.args.len) c.args.plan.staged c.requires.plan c.in-None.is)
