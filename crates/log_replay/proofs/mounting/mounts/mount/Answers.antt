use Rattle.log_replay.proofs.Keeping.{home-single}
use Rattle.log_replay.proofs.MountingMounting.{checked-blocks, mount-answer, size-checked}
use Rattle.log_replay.proofs.Spending.{spent-none}
use Rattle.log_replay.proofs.mounting.mounts.mount.Goals as goal

pub check-requires-clause-home : goal.check-requires-clause-home
check-requires-clause-home c = home-single c.args.pm c.requires.single

pub mount_checked-requires-clause-size : goal.mount_checked-requires-clause-size
mount_checked-requires-clause-size c = size-checked c.args.pm c.in-Ok.geometry c.in-Ok.ensures.geometry c.in-Ok.ensures.ok

pub mount_checked-requires-clause-checked : goal.mount_checked-requires-clause-checked
mount_checked-requires-clause-checked c = checked-blocks c.args.pm c.in-Ok.geometry c.in-Ok.ensures.geometry c.in-Ok.ensures.ok

pub returns-in-Ok-clause-answer : goal.returns-in-Ok-clause-answer
returns-in-Ok-clause-answer c =
    mount-answer c.args.pm c.in-Ok.geometry c.in-Ok.ensures.geometry c.in-Ok.ensures.ok c.args.power.now c.mount_checked.new.power c.mount_checked.result c.mount_checked.ensures.answer

pub returns-in-Err-Bad-clause-spent : goal.returns-in-Err-Bad-clause-spent
returns-in-Err-Bad-clause-spent c = spent-none c.args.power.now

pub returns-clause-spent : goal.returns-clause-spent
returns-clause-spent c = spent-none c.args.power.now
