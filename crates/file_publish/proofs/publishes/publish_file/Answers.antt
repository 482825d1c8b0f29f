use Rattle.std.proofs.Common.{Ok, refl, ◌∙◌}
use Rattle.std.proofs.lemmas.Result.{err_from_is_err_and}
use Rattle.log_checkpoint.specs.fsync_relink.Publishes.{IsCarriedOut}
use Rattle.log_checkpoint.specs.fsync_relink.k_journal.declared.outcomes.Commit.{Commit}
use Rattle.file_publish.proofs.Files.{file-done, file-lost, file-may, file-steps}
use Rattle.file_publish.proofs.publishes.publish_file.Goals as goal

pub publish_runs-requires-clause-on : goal.publish_runs-requires-clause-on
publish_runs-requires-clause-on c = c.requires.on.on

pub publish_runs-requires-clause-unbatched : goal.publish_runs-requires-clause-unbatched
publish_runs-requires-clause-unbatched c = c.requires.on.unbatched

pub publish_runs-requires-clause-order : goal.publish_runs-requires-clause-order
publish_runs-requires-clause-order c = c.requires.on.order

pub publish_runs-requires-clause-may : goal.publish_runs-requires-clause-may
publish_runs-requires-clause-may c =
    file-may c.args.ino c.size-size.result c.runs.result.now c.args.files.now c.args.k.now c.args.k.now (c.runs.ensures.all ∙ c.overlay.ensures) c.size-size.ensures.size c.requires.may

pub returns-in_err-commit-clause-steps : goal.returns-in_err-commit-clause-steps
returns-in_err-commit-clause-steps c =
    file-steps c.args.ino c.size-size.result c.runs.result.now c.args.files.now c.args.k.now c.publish_runs.new.k (c.runs.ensures.all ∙ c.overlay.ensures) c.size-size.ensures.size c.args.power.now c.publish_runs.new.power
    c.publish_runs.ensures.steps

pub returns-in_err-commit-clause-answer : goal.returns-in_err-commit-clause-answer
returns-in_err-commit-clause-answer c =
    let p = err_from_is_err_and c.from_residual.result c.from_residual.ensures.1 in
    rw p.1 refl

pub returns-in-PowerLost-clause-steps : goal.returns-in-PowerLost-clause-steps
returns-in-PowerLost-clause-steps c =
    file-steps c.args.ino c.size-size.result c.runs.result.now c.args.files.now c.args.k.now c.publish_runs.new.k (c.runs.ensures.all ∙ c.overlay.ensures) c.size-size.ensures.size c.args.power.now c.publish_runs.new.power
    c.publish_runs.ensures.steps

pub returns-in-PowerLost-clause-answer : goal.returns-in-PowerLost-clause-answer
returns-in-PowerLost-clause-answer c =
    let is : IsCarriedOut c.args.ino c.size-size.result c.runs.result.now c.args.k.now c.publish_runs.new.k (Ok Commit.PowerLost) = rw c.in-PowerLost.is at c.in_ok-commit.ensures.answer in
    file-lost c.args.ino c.size-size.result c.runs.result.now c.args.files.now c.args.k.now c.publish_runs.new.k (c.runs.ensures.all ∙ c.overlay.ensures) c.size-size.ensures.size c.a_file_is_published.ensures.cut c.requires.may is

pub returns-in-Done-clause-steps : goal.returns-in-Done-clause-steps
returns-in-Done-clause-steps c =
    file-steps c.args.ino c.size-size.result c.runs.result.now c.args.files.now c.args.k.now c.publish_runs.new.k (c.runs.ensures.all ∙ c.overlay.ensures) c.size-size.ensures.size c.args.power.now c.publish_runs.new.power
    c.publish_runs.ensures.steps

pub returns-in-Done-clause-answer : goal.returns-in-Done-clause-answer
returns-in-Done-clause-answer c =
    let is : IsCarriedOut c.args.ino c.size-size.result c.runs.result.now c.args.k.now c.publish_runs.new.k (Ok Commit.Done) = rw c.in-Done.is at c.in_ok-commit.ensures.answer in
    file-done c.args.ino c.size-size.result c.runs.result.now c.args.files.now c.args.k.now c.publish_runs.new.k (c.runs.ensures.all ∙ c.overlay.ensures) c.size-size.ensures.size c.a_file_is_published.ensures.done c.requires.may
    c.clear.new.self is c.clear.ensures.file
