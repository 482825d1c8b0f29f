use Rattle.std.proofs.Common.{sym, ◌∙◌}
use Rattle.log_replay.proofs.Devices.{device-then}
use Rattle.log_replay.proofs.Left.{on_replayed}
use Rattle.log_replay.proofs.MountingMounting.{recover-done, replayed-quiet}
use Rattle.log_replay.proofs.Spending.{spent-steps, spent-then}
use Rattle.log_replay.proofs.Showing.{shown-same, images-recovered}
use Rattle.log_replay.proofs.mounting.mounts.recover_log.Goals as goal

pub finish-requires : goal.finish-requires
finish-requires c =
    let done = on_replayed c.args.k.now c.replay.new.k c.replay.result c.in_ok-left.field-0 (sym c.left.ensures ∙ c.in_ok-left.was) c.replay.ensures.answer in
    replayed-quiet c.args.k.now c.replay.new.k done

pub returns-clause-done : goal.returns-clause-done
returns-clause-done c =
    let done = on_replayed c.args.k.now c.replay.new.k c.replay.result c.in_ok-left.field-0 (sym c.left.ensures ∙ c.in_ok-left.was) c.replay.ensures.answer in
    recover-done c.args.entries.now c.args.k.now c.replay.new.k c.finish.new.k c.finish.result c.requires done c.replay.ensures.images c.finish.ensures.done

pub returns-in_err-left-clause-spent : goal.returns-in_err-left-clause-spent
returns-in_err-left-clause-spent c = spent-steps _ c.args.power.now c.replay.new.power c.replay.ensures.steps

pub returns-clause-spent : goal.returns-clause-spent
returns-clause-spent c =
    spent-then c.args.power.now c.replay.new.power c.finish.new.power (spent-steps _ c.args.power.now c.replay.new.power c.replay.ensures.steps) c.finish.ensures.spent

pub returns-in_err-left-clause-images : goal.returns-in_err-left-clause-images
returns-in_err-left-clause-images c = shown-same c.args.k.now.volume.geometry c.args.k.now.cells c.replay.new.k.cells c.requires.rest.single c.replay.ensures.images

pub returns-clause-images : goal.returns-clause-images
returns-clause-images c =
    let done = on_replayed c.args.k.now c.replay.new.k c.replay.result c.in_ok-left.field-0 (sym c.left.ensures ∙ c.in_ok-left.was) c.replay.ensures.answer in
    images-recovered c.args.entries.now c.args.k.now c.replay.new.k c.finish.new.k c.requires done c.replay.ensures.images c.finish.ensures.images

pub returns-clause-device : goal.returns-clause-device
returns-clause-device c = device-then c.args.k.now.cells c.replay.new.k.cells c.finish.new.k.cells c.replay.ensures.device c.finish.ensures.device
