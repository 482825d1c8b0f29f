use Rattle.log_replay.proofs.Devices.{device-then}
use Rattle.log_replay.proofs.MountingMounting.{swept-done}
use Rattle.log_replay.specs.Sweeps.{AreUnstaged}
use Rattle.log_replay.proofs.Spending.{spent-then}
use Rattle.log_replay.proofs.Keeping.{images-then}
use Rattle.log_replay.proofs.mounting.mounts.sweep.Goals as goal

pub trim-requires : goal.trim-requires
trim-requires c =
    let first : AreUnstaged c.args.k.now c.unstage.new.k = c.in_ok-unstage.ensures.done in
    first.shows.quiet

pub returns-clause-done : goal.returns-clause-done
returns-clause-done c =
    let first : AreUnstaged c.args.k.now c.unstage.new.k = c.in_ok-unstage.ensures.done in
    swept-done c.args.k.now c.unstage.new.k c.trim.new.k c.trim.result first c.trim.ensures.done

pub returns-clause-spent : goal.returns-clause-spent
returns-clause-spent c = spent-then c.args.power.now c.unstage.new.power c.trim.new.power c.unstage.ensures.spent c.trim.ensures.spent

pub returns-clause-images : goal.returns-clause-images
returns-clause-images c =
    let first : AreUnstaged c.args.k.now c.unstage.new.k = c.in_ok-unstage.ensures.done in
    images-then c.args.k.now c.unstage.new.k c.trim.new.k.cells c.requires.rest.single first.shows c.trim.ensures.images

pub returns-clause-device : goal.returns-clause-device
returns-clause-device c = device-then c.args.k.now.cells c.unstage.new.k.cells c.trim.new.k.cells c.unstage.ensures.device c.trim.ensures.device
