use Rattle.log_replay.proofs.Devices.{device-lapped, device-then}
use Rattle.log_replay.proofs.OwnImage.{settle-done, settle-steps, within}
use Rattle.log_replay.proofs.Shown.{shown-follows}
use Rattle.log_replay.proofs.SettleImages.{settle-images}
use Rattle.log_replay.proofs.settling.settling.settle.Goals as goal

pub begin_lap-requires : goal.begin_lap-requires
begin_lap-requires c = c.in-Done.ensures.done.rest

pub returns-in-PowerLost-clause-steps : goal.returns-in-PowerLost-clause-steps
returns-in-PowerLost-clause-steps c = within c.args.k.now.volume c.args.power.now c.drop_nameless.new.power c.drop_nameless.ensures.steps

pub returns-in-Done-clause-steps : goal.returns-in-Done-clause-steps
returns-in-Done-clause-steps c =
    settle-steps c.args.k.now c.drop_nameless.new.k c.args.power.now c.drop_nameless.new.power c.begin_lap.new.power c.in-Done.ensures.done c.drop_nameless.ensures.steps
    c.begin_lap.ensures.steps

pub returns-in-Done-clause-done : goal.returns-in-Done-clause-done
returns-in-Done-clause-done c =
    settle-done c.args.k.now c.drop_nameless.new.k c.begin_lap.new.k c.begin_lap.result c.requires c.in-Done.ensures.done c.begin_lap.ensures.rises c.begin_lap.ensures.anew

pub returns-in-PowerLost-clause-images : goal.returns-in-PowerLost-clause-images
returns-in-PowerLost-clause-images c =
    shown-follows c.args.k.now.volume.geometry c.args.k.now.cells c.drop_nameless.new.k.cells c.requires.rest.single c.drop_nameless.ensures.images

pub returns-in-Done-clause-images : goal.returns-in-Done-clause-images
returns-in-Done-clause-images c =
    settle-images c.args.k.now c.drop_nameless.new.k c.begin_lap.new.k c.begin_lap.result c.requires c.in-Done.ensures.done c.drop_nameless.ensures.images
    c.begin_lap.ensures.rises c.begin_lap.ensures.anew

pub returns-in-Done-clause-device : goal.returns-in-Done-clause-device
returns-in-Done-clause-device c =
    device-then c.args.k.now.cells c.drop_nameless.new.k.cells c.begin_lap.new.k.cells c.drop_nameless.ensures.device
    (device-lapped _ c.drop_nameless.new.k c.begin_lap.new.k c.begin_lap.result c.begin_lap.ensures.rises c.begin_lap.ensures.anew)
