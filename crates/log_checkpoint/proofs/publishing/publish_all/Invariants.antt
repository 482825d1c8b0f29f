use Rattle.std.proofs.Common.{◌≡◌, true}
use Rattle.file_table.specs.pm_model.Powers.{is_on}
use Rattle.log_checkpoint.proofs.Lines.{IsOnTheWay}
use Rattle.log_checkpoint.proofs.Sums.{LeavesSteps}
use Rattle.log_checkpoint.specs.Gathers.{AreCleared}
use Rattle.log_checkpoint.proofs.publishing.publish_all.Given as goal

abbrev pub invariant-loop-ino : goal.invariant-loop-ino
invariant-loop-ino l =
    IsOnTheWay l.fn.files l.fn.k l.ino l.k × AreCleared l.ino l.fn.files l.files × LeavesSteps l.ino l.fn.files l.fn.k.volume l.fn.power l.power
    × (is_on l.power ≡ true)
