use Rattle.std.proofs.Common.{◌+◌, ◌*◌, length, Ok, sym, ◌∙◌, subst}
use Rattle.std.proofs.lemmas.Result.{err_from_is_err_and}
use Rattle.file_table.specs.Files.{runs_in, size_in}
use Rattle.fsync_relink.proofs.WayLaws.{steps-here}
use Rattle.fsync_relink.specs.Publishes.{IsCarriedOut, MayPublish}
use Rattle.staging_files.specs.k_journal.declared.outcomes.Commit.{Commit}
use Rattle.log_checkpoint.proofs.Lines.{line-failed, line-lost, line-published, line-steps}
use Rattle.log_checkpoint.specs.Gathers.{file_at}
use Rattle.log_checkpoint.proofs.publishing.publish_line.Goals as goal

pub returns-then-not-is_file-clause-steps : goal.returns-then-not-is_file-clause-steps
returns-then-not-is_file-clause-steps c =
    steps-here (32768 * (length (runs_in c.args.files.now c.args.ino) + file_at c.args.k.now.volume c.args.ino)) c.args.power.now

pub publish_runs-requires-clause-on : goal.publish_runs-requires-clause-on
publish_runs-requires-clause-on c = c.requires.on.on

pub publish_runs-requires-clause-unbatched : goal.publish_runs-requires-clause-unbatched
publish_runs-requires-clause-unbatched c = c.requires.on.unbatched

pub publish_runs-requires-clause-order : goal.publish_runs-requires-clause-order
publish_runs-requires-clause-order c = c.requires.on.order

pub publish_runs-requires-clause-may : goal.publish_runs-requires-clause-may
publish_runs-requires-clause-may c =
    subst (λ n. MayPublish c.args.ino n c.runs.result.now c.args.k.now) (sym c.size-size.ensures.size)
    (subst (λ rs. MayPublish c.args.ino (size_in c.args.files.now c.args.ino) rs c.args.k.now) (sym (c.runs.ensures.all ∙ c.overlay.ensures))
    (c.requires.may (c.is_file.ensures.0 c.if-not-is_file.false)))

pub returns-in_err-commit-clause-steps : goal.returns-in_err-commit-clause-steps
returns-in_err-commit-clause-steps c =
    line-steps c.args.ino c.size-size.result c.runs.result.now c.args.files.now c.args.k.now c.publish_runs.new.k (c.is_file.ensures.0 c.if-not-is_file.false)
    (c.runs.ensures.all ∙ c.overlay.ensures) c.size-size.ensures.size c.args.power.now c.publish_runs.new.power c.publish_runs.ensures.steps

pub returns-in_err-commit-clause-answer : goal.returns-in_err-commit-clause-answer
returns-in_err-commit-clause-answer c =
    let p = err_from_is_err_and c.from_residual.result c.from_residual.ensures.1 in
    rw p.1 (line-failed c.args.ino c.size-size.result c.runs.result.now c.args.files.now c.args.k.now c.publish_runs.new.k (c.is_file.ensures.0 c.if-not-is_file.false)
    (c.runs.ensures.all ∙ c.overlay.ensures) c.size-size.ensures.size p.0 c.in_err-commit.ensures.answer)

pub returns-in-PowerLost-clause-steps : goal.returns-in-PowerLost-clause-steps
returns-in-PowerLost-clause-steps c =
    line-steps c.args.ino c.size-size.result c.runs.result.now c.args.files.now c.args.k.now c.publish_runs.new.k (c.is_file.ensures.0 c.if-not-is_file.false)
    (c.runs.ensures.all ∙ c.overlay.ensures) c.size-size.ensures.size c.args.power.now c.publish_runs.new.power c.publish_runs.ensures.steps

pub returns-in-PowerLost-clause-answer : goal.returns-in-PowerLost-clause-answer
returns-in-PowerLost-clause-answer c =
    let is : IsCarriedOut c.args.ino c.size-size.result c.runs.result.now c.args.k.now c.publish_runs.new.k (Ok Commit.PowerLost) = rw c.in-PowerLost.is at c.in_ok-commit.ensures.answer in
    line-lost c.args.ino c.size-size.result c.runs.result.now c.args.files.now c.args.k.now c.publish_runs.new.k (c.is_file.ensures.0 c.if-not-is_file.false)
    (c.runs.ensures.all ∙ c.overlay.ensures) c.size-size.ensures.size is

pub returns-in-Done-clause-steps : goal.returns-in-Done-clause-steps
returns-in-Done-clause-steps c =
    line-steps c.args.ino c.size-size.result c.runs.result.now c.args.files.now c.args.k.now c.publish_runs.new.k (c.is_file.ensures.0 c.if-not-is_file.false)
    (c.runs.ensures.all ∙ c.overlay.ensures) c.size-size.ensures.size c.args.power.now c.publish_runs.new.power c.publish_runs.ensures.steps

pub returns-in-Done-clause-answer : goal.returns-in-Done-clause-answer
returns-in-Done-clause-answer c =
    let is : IsCarriedOut c.args.ino c.size-size.result c.runs.result.now c.args.k.now c.publish_runs.new.k (Ok Commit.Done) = rw c.in-Done.is at c.in_ok-commit.ensures.answer in
    line-published c.args.ino c.size-size.result c.runs.result.now c.args.files.now c.args.k.now c.publish_runs.new.k (c.is_file.ensures.0 c.if-not-is_file.false)
    (c.runs.ensures.all ∙ c.overlay.ensures) c.size-size.ensures.size c.clear.new.self is c.clear.ensures.file
