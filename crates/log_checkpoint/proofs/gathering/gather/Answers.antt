use Rattle.std.proofs.Common.{Err, inl, Ok}
use Rattle.fsync_relink.specs.Others.{GoesOn}
use Rattle.staging_files.specs.k_journal.declared.outcomes.Commit.{Commit}
use Rattle.log_checkpoint.proofs.EndContent.{gathered-content, goes-on, same-content}
use Rattle.log_checkpoint.proofs.Laps.{gathered, still-single}
use Rattle.log_checkpoint.specs.Gathers.{AreAllDone, AreDoneUpTo}
use Rattle.staging_files.specs.k_split.declared.faults.KFault.{KFault}
use Rattle.log_checkpoint.proofs.gathering.gather.Goals as goal

pub returns-then-is_lost-clause-content : goal.returns-then-is_lost-clause-content
returns-then-is_lost-clause-content c = same-content c.args.files.now c.args.k.now

pub returns-in_err-commit-clause-content : goal.returns-in_err-commit-clause-content
returns-in_err-commit-clause-content c =
    let on : GoesOn c.args.k.now = goes-on c.args.k.now c.is_lost.result c.is_lost.ensures.lost c.if-is_lost.false c.is_lost.ensures.order c.requires.unbatched in
    gathered-content c.images_have_the_old_or_the_new_content.ensures.content c.args.files.now c.publish_all.new.files c.args.k.now c.publish_all.new.k c.args.staging.now
    (Err c.in_err-commit.field-0.0) (c.requires.may on.on) on (c.requires.next on.on) (inl c.in_err-commit.ensures.answer)

pub begin_bare_lap-requires-clause-single : goal.begin_bare_lap-requires-clause-single
begin_bare_lap-requires-clause-single c =
    let on : GoesOn c.args.k.now = goes-on c.args.k.now c.is_lost.result c.is_lost.ensures.lost c.if-is_lost.false c.is_lost.ensures.order c.requires.unbatched in
    let done : AreAllDone c.args.files.now c.args.k.now c.publish_all.new.files c.publish_all.new.k = rw c.in-Done.is at c.in_ok-commit.ensures.answer in
    still-single c.args.k.now c.publish_all.new.k done.rest on (c.requires.single on.on)

pub returns-in-PowerLost-clause-content : goal.returns-in-PowerLost-clause-content
returns-in-PowerLost-clause-content c =
    let on : GoesOn c.args.k.now = goes-on c.args.k.now c.is_lost.result c.is_lost.ensures.lost c.if-is_lost.false c.is_lost.ensures.order c.requires.unbatched in
    let stopped : AreDoneUpTo KFault.PowerLost c.args.files.now c.args.k.now c.publish_all.new.k = rw c.in-PowerLost.is at c.in_ok-commit.ensures.answer in
    gathered-content c.images_have_the_old_or_the_new_content.ensures.content c.args.files.now c.publish_all.new.files c.args.k.now c.publish_all.new.k c.args.staging.now
    (Ok Commit.PowerLost) (c.requires.may on.on) on (c.requires.next on.on) (inl stopped)

pub returns-in-Done-clause-content : goal.returns-in-Done-clause-content
returns-in-Done-clause-content c =
    let on : GoesOn c.args.k.now = goes-on c.args.k.now c.is_lost.result c.is_lost.ensures.lost c.if-is_lost.false c.is_lost.ensures.order c.requires.unbatched in
    let done : AreAllDone c.args.files.now c.args.k.now c.publish_all.new.files c.publish_all.new.k = rw c.in-Done.is at c.in_ok-commit.ensures.answer in
    gathered-content c.images_have_the_old_or_the_new_content.ensures.content c.args.files.now c.publish_all.new.files c.args.k.now c.begin_bare_lap.new.k
    c.begin_bare_lap.new.staging c.begin_bare_lap.result (c.requires.may on.on) on (c.requires.next on.on)
    (gathered c.args.files.now c.publish_all.new.files c.args.k.now c.publish_all.new.k c.begin_bare_lap.new.k c.begin_bare_lap.new.staging c.begin_bare_lap.result done
    c.begin_bare_lap.ensures.answer)

pub returns-in-Done-clause-answer : goal.returns-in-Done-clause-answer
returns-in-Done-clause-answer c =
    let done : AreAllDone c.args.files.now c.args.k.now c.publish_all.new.files c.publish_all.new.k = rw c.in-Done.is at c.in_ok-commit.ensures.answer in
    gathered c.args.files.now c.publish_all.new.files c.args.k.now c.publish_all.new.k c.begin_bare_lap.new.k c.begin_bare_lap.new.staging c.begin_bare_lap.result done
    c.begin_bare_lap.ensures.answer
