use Rattle.std.proofs.Common.{◌+◌, ◌*◌, length, arith}
use Rattle.fsync_relink.proofs.LoggedLaws.{carried-images}
use Rattle.fsync_relink.proofs.PublishedLaws.{each-carried, none-there, resized-carried, some-there}
use Rattle.fsync_relink.proofs.WayLaws.{publish-room, steps-within}
use Rattle.fsync_relink.proofs.publishing.publishing.publish_runs.Goals as goal

pub resize-requires-clause-room : goal.resize-requires-clause-room
resize-requires-clause-room c = publish-room c.args.ino c.args.size c.args.runs.now c.args.k.now c.requires.order c.requires.unbatched c.requires.may

pub returns-then-is_empty-clause-steps : goal.returns-then-is_empty-clause-steps
returns-then-is_empty-clause-steps c = steps-within 32768 (32768 * (length c.args.runs.now + 1)) c.args.power.now c.resize.new.power (omega arith) c.resize.ensures.steps

pub returns-then-is_empty-clause-answer : goal.returns-then-is_empty-clause-answer
returns-then-is_empty-clause-answer c =
    resized-carried c.args.ino c.args.size c.args.runs.now c.args.k.now c.resize.new.k c.resize.result (none-there c.args.runs.now c.is_empty.result c.is_empty.ensures c.if-is_empty.true) c.resize.ensures.answer

pub returns-then-is_empty-clause-content : goal.returns-then-is_empty-clause-content
returns-then-is_empty-clause-content c =
    carried-images c.args.ino c.args.size c.args.runs.now c.args.k.now c.resize.new.k c.resize.result c.requires.order c.requires.unbatched c.requires.may
    (resized-carried c.args.ino c.args.size c.args.runs.now c.args.k.now c.resize.new.k c.resize.result (none-there c.args.runs.now c.is_empty.result c.is_empty.ensures c.if-is_empty.true) c.resize.ensures.answer)

pub returns-else-is_empty-clause-steps : goal.returns-else-is_empty-clause-steps
returns-else-is_empty-clause-steps c =
    steps-within (32768 * length c.args.runs.now) (32768 * (length c.args.runs.now + 1)) c.args.power.now c.relink_each.new.power (omega arith) c.relink_each.ensures.steps

pub returns-else-is_empty-clause-answer : goal.returns-else-is_empty-clause-answer
returns-else-is_empty-clause-answer c =
    each-carried c.args.ino c.args.size c.args.runs.now c.args.k.now c.relink_each.new.k c.relink_each.result (some-there c.args.runs.now c.is_empty.result c.is_empty.ensures c.if-is_empty.false) c.requires.order c.requires.unbatched c.requires.may
    c.relink_each.ensures.answer

pub returns-else-is_empty-clause-content : goal.returns-else-is_empty-clause-content
returns-else-is_empty-clause-content c =
    carried-images c.args.ino c.args.size c.args.runs.now c.args.k.now c.relink_each.new.k c.relink_each.result c.requires.order c.requires.unbatched c.requires.may
    (each-carried c.args.ino c.args.size c.args.runs.now c.args.k.now c.relink_each.new.k c.relink_each.result (some-there c.args.runs.now c.is_empty.result c.is_empty.ensures c.if-is_empty.false) c.requires.order c.requires.unbatched c.requires.may
    c.relink_each.ensures.answer)
