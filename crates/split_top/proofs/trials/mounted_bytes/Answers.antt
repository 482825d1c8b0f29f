use Rattle.command_line.specs.pm_model.CellLaws.{single-home}
use Rattle.command_line.specs.pm_model.Cells.{cell}
use Rattle.split_top.proofs.Results.{follows}
use Rattle.split_top.proofs.TrialLaws.{device-taken, keeps-content, left-by-mounts}
use Rattle.split_top.proofs.trials.mounted_bytes.Goals as goal

pub choose-requires : goal.choose-requires
choose-requires c i = single-home (cell c.in_ok-last.last i) (c.in_ok-last.ensures.goes_on.mounts.single i)

pub returns-clause-left : goal.returns-clause-left
returns-clause-left c =
    let last = c.in_ok-last.last in
    let first = c.args.opened.pm in
    follows c.choose.result _ _
    (λ after taken. λ image is.
    left-by-mounts image after.items first last is (device-taken last after.items c.in_ok-last.ensures.goes_on.mounts.single taken) c.args.opened.geometry c.requires c.args.choice c.args.again.now c.in_ok-last.ensures.remounted)
    c.choose.ensures.image

pub returns-clause-kept : goal.returns-clause-kept
returns-clause-kept c =
    let last = c.in_ok-last.last in
    let first = c.args.opened.pm in
    follows c.choose.result _ _
    (λ after taken. λ image is.
    keeps-content image after.items first last is (device-taken last after.items c.in_ok-last.ensures.goes_on.mounts.single taken) c.args.opened.geometry c.requires c.in_ok-last.ensures.goes_on)
    c.choose.ensures.image
