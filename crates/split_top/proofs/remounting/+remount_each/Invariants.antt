use Rattle.std.proofs.Common.{length}
use Rattle.split_top.proofs.remounting.+remount_each.Given as goal

abbrev pub decreases-remount_each : goal.decreases-remount_each
decreases-remount_each l = length l.again.now
