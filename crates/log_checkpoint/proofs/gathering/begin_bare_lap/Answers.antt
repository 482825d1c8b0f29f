use Rattle.std.proofs.Common.{Ok}
use Rattle.std.proofs.lemmas.Bool.{both_ways}
use Rattle.fsync_relink.specs.Others.{GoesOn}
use Rattle.staging_files.specs.GivesUp.{IsGiveUpAllAnswer}
use Rattle.staging_files.specs.k_journal.declared.outcomes.Commit.{Commit}
use Rattle.log_checkpoint.proofs.Laps.{given-on, lap-behind}
use Rattle.log_checkpoint.proofs.gathering.begin_bare_lap.Goals as goal

pub give_up_all-requires-clause-awake : goal.give_up_all-requires-clause-awake
give_up_all-requires-clause-awake c lost = absurd (both_ways c.args.k.now.lost c.requires.on.on lost)

pub give_up_all-requires-clause-unbatched : goal.give_up_all-requires-clause-unbatched
give_up_all-requires-clause-unbatched c on = c.requires.on.unbatched

pub new_lap-requires-clause-empty : goal.new_lap-requires-clause-empty
new_lap-requires-clause-empty c on =
    let bare : IsGiveUpAllAnswer c.args.staging.now c.args.k.now c.give_up_all.new.self c.give_up_all.new.k (Ok Commit.Done) = rw c.in-Done.is at c.in_ok-commit.ensures.answer in
    let goes : GoesOn c.give_up_all.new.k = given-on 4 c.args.k.now c.give_up_all.new.k c.requires.on bare.2 in
    goes.order.none_set goes.unbatched

pub returns-in-Done-clause-answer : goal.returns-in-Done-clause-answer
returns-in-Done-clause-answer c =
    let bare : IsGiveUpAllAnswer c.args.staging.now c.args.k.now c.give_up_all.new.self c.give_up_all.new.k (Ok Commit.Done) = rw c.in-Done.is at c.in_ok-commit.ensures.answer in
    lap-behind c.args.k.now c.give_up_all.new.k c.new_lap.new.self c.args.staging.now c.give_up_all.new.self c.new_lap.result c.requires.on bare c.new_lap.ensures.answer
