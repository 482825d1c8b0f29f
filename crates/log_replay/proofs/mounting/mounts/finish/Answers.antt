use Rattle.log_replay.proofs.Devices.{device-then}
use Rattle.log_replay.proofs.MountingMounting.{finish-done, may-settle}
use Rattle.log_replay.proofs.Spending.{spent-then}
use Rattle.log_replay.specs.Sweeps.{AreSwept}
use Rattle.log_replay.proofs.Showing.{shown-same, images-finished}
use Rattle.log_replay.proofs.mounting.mounts.finish.Goals as goal

pub close-requires : goal.close-requires
close-requires c =
    let swept : AreSwept c.args.k.now c.sweep.new.k = c.in_ok-sweep.ensures.done in
    may-settle c.args.k.now c.sweep.new.k swept

pub returns-clause-done : goal.returns-clause-done
returns-clause-done c =
    let swept : AreSwept c.args.k.now c.sweep.new.k = c.in_ok-sweep.ensures.done in
    finish-done c.args.k.now c.sweep.new.k c.close.new.k c.close.result c.requires swept c.close.ensures.done

pub returns-clause-spent : goal.returns-clause-spent
returns-clause-spent c = spent-then c.args.power.now c.sweep.new.power c.close.new.power c.sweep.ensures.spent c.close.ensures.spent

pub returns-in_err-sweep-clause-images : goal.returns-in_err-sweep-clause-images
returns-in_err-sweep-clause-images c = shown-same c.args.k.now.volume.geometry c.args.k.now.cells c.sweep.new.k.cells c.requires.rest.single c.sweep.ensures.images

pub returns-clause-images : goal.returns-clause-images
returns-clause-images c =
    let swept : AreSwept c.args.k.now c.sweep.new.k = c.in_ok-sweep.ensures.done in
    images-finished c.args.k.now c.sweep.new.k c.close.new.k swept c.close.ensures.images

pub returns-clause-device : goal.returns-clause-device
returns-clause-device c = device-then c.args.k.now.cells c.sweep.new.k.cells c.close.new.k.cells c.sweep.ensures.device c.close.ensures.device
