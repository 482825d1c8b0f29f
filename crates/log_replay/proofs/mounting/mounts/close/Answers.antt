use Rattle.std.proofs.Common.{sym, ◌∙◌}
use Rattle.k_check.specs.pm_model.Images.{words_of}
use Rattle.log_replay.specs.Sheds.{IsSettled}
use Rattle.log_replay.proofs.Devices.{device-then}
use Rattle.log_replay.proofs.Left.{on_done}
use Rattle.log_replay.proofs.MountingMounting.{closed-done, may-reset}
use Rattle.log_replay.proofs.Spending.{spent-steps, spent-then}
use Rattle.log_replay.proofs.Showing.{images-closed}
use Rattle.log_replay.proofs.mounting.mounts.close.Goals as goal

pub reset-requires : goal.reset-requires
reset-requires c =
    let done = on_done c.settle.result (IsSettled c.args.k.now.volume.geometry (words_of c.args.k.now.cells) c.settle.new.k) c.in_ok-left.field-0 (sym c.left.ensures ∙ c.in_ok-left.was) c.settle.ensures.done in
    may-reset c.args.k.now c.settle.new.k done

pub returns-in_err-left-clause-spent : goal.returns-in_err-left-clause-spent
returns-in_err-left-clause-spent c = spent-steps _ c.args.power.now c.settle.new.power c.settle.ensures.steps

pub returns-clause-spent : goal.returns-clause-spent
returns-clause-spent c =
    spent-then c.args.power.now c.settle.new.power c.reset.new.power (spent-steps _ c.args.power.now c.settle.new.power c.settle.ensures.steps) c.reset.ensures.spent

pub returns-clause-done : goal.returns-clause-done
returns-clause-done c =
    let done = on_done c.settle.result (IsSettled c.args.k.now.volume.geometry (words_of c.args.k.now.cells) c.settle.new.k) c.in_ok-left.field-0 (sym c.left.ensures ∙ c.in_ok-left.was) c.settle.ensures.done in
    closed-done c.args.k.now c.settle.new.k c.reset.new.k c.reset.result done c.reset.ensures.done

pub returns-clause-images : goal.returns-clause-images
returns-clause-images c =
    let done = on_done c.settle.result (IsSettled c.args.k.now.volume.geometry (words_of c.args.k.now.cells) c.settle.new.k) c.in_ok-left.field-0 (sym c.left.ensures ∙ c.in_ok-left.was) c.settle.ensures.done in
    images-closed c.args.k.now c.settle.new.k c.reset.new.k done c.reset.ensures.images

pub returns-clause-device : goal.returns-clause-device
returns-clause-device c = device-then c.args.k.now.cells c.settle.new.k.cells c.reset.new.k.cells c.settle.ensures.device c.reset.ensures.device
