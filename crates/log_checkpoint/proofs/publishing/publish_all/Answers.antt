use Rattle.std.proofs.Common.{◌≡◌, ◌<◌, ◌+◌, length, true, Ok, ◌∙◌, ap, arith}
use Rattle.file_table.specs.layout_model.Places.{Geometry}
use Rattle.file_table.specs.Files.{runs_in}
use Rattle.staging_files.specs.k_journal.declared.outcomes.Commit.{Commit}
use Rattle.file_table.specs.pm_model.Powers.{is_on}
use Rattle.log_checkpoint.proofs.Lines.{table-cost, way-line}
use Rattle.log_checkpoint.proofs.Sums.{steps-next, steps-stop}
use Rattle.log_checkpoint.specs.Gathers.{file_at, IsPublishedLine}
use Rattle.log_checkpoint.proofs.publishing.publish_all.Goals as goal

pub loop-ino-preserved : goal.loop-ino-preserved
loop-ino-preserved c =
    let n = c.loop-ino.ino in
    let answer : IsPublishedLine c.loop-ino.ino c.loop-ino.files c.loop-ino.k c.publish_line.new.files c.publish_line.new.k (Ok Commit.Done) =
    rw c.in-Done.is at c.in_ok-commit.ensures.answer
    in
    let on : is_on c.publish_line.new.power ≡ true = rw c.in-Done.is at c.in_ok-commit.ensures.paid in
    let inodes = c.requires.on.order.whole.kept.all.inode_count in
    let below : c.loop-ino.ino < length c.args.k.now.volume.inodes =
    omega (arith, c.loop-ino-test.true, inodes, ap (λ (g : Geometry). g.inodes) (c.behind-k.view_is ∙ c.geometry.ensures))
    in
    let in_sizes : c.loop-ino.ino < length c.args.files.now.sizes = omega (arith, below, c.requires.may.lines) in
    let both =
    way-line c.args.files.now c.args.k.now n c.loop-ino.files c.loop-ino.k c.publish_line.new.files c.publish_line.new.k c.requires.may in_sizes c.loop-ino.invariant.0
    c.loop-ino.invariant.1 answer
    in (
      both.0,
      both.1,
      steps-next n (length (runs_in c.loop-ino.files n) + file_at c.loop-ino.k.volume n) c.args.files.now c.args.k.now.volume c.args.power.now c.loop-ino.power c.publish_line.new.power
          below
          (table-cost c.args.files.now n c.loop-ino.files c.loop-ino.invariant.1 c.args.k.now c.loop-ino.k c.loop-ino.invariant.0.rest) c.loop-ino.invariant.2 c.publish_line.ensures.steps,
      on,
    )

pub returns-in_err-commit-clause-steps : goal.returns-in_err-commit-clause-steps
returns-in_err-commit-clause-steps c =
    let n = c.loop-ino.ino in
    let inodes = c.requires.on.order.whole.kept.all.inode_count in
    let below : c.loop-ino.ino < length c.args.k.now.volume.inodes =
    omega (arith, c.loop-ino-test.true, inodes, ap (λ (g : Geometry). g.inodes) (c.behind-k.view_is ∙ c.geometry.ensures))
    in
    steps-stop n (length (runs_in c.loop-ino.files n) + file_at c.loop-ino.k.volume n) c.args.files.now c.args.k.now.volume c.args.power.now c.loop-ino.power c.publish_line.new.power below
    (table-cost c.args.files.now n c.loop-ino.files c.loop-ino.invariant.1 c.args.k.now c.loop-ino.k c.loop-ino.invariant.0.rest) c.loop-ino.invariant.2 c.publish_line.ensures.steps

pub returns-in-PowerLost-clause-steps : goal.returns-in-PowerLost-clause-steps
returns-in-PowerLost-clause-steps c =
    let n = c.loop-ino.ino in
    let inodes = c.requires.on.order.whole.kept.all.inode_count in
    let below : c.loop-ino.ino < length c.args.k.now.volume.inodes =
    omega (arith, c.loop-ino-test.true, inodes, ap (λ (g : Geometry). g.inodes) (c.behind-k.view_is ∙ c.geometry.ensures))
    in
    steps-stop n (length (runs_in c.loop-ino.files n) + file_at c.loop-ino.k.volume n) c.args.files.now c.args.k.now.volume c.args.power.now c.loop-ino.power c.publish_line.new.power below
    (table-cost c.args.files.now n c.loop-ino.files c.loop-ino.invariant.1 c.args.k.now c.loop-ino.k c.loop-ino.invariant.0.rest) c.loop-ino.invariant.2 c.publish_line.ensures.steps
