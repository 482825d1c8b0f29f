use Rattle.std.proofs.Common.{◌≡◌, true}
use Rattle.k_check.specs.pm_model.Powers.{is_on}
use Rattle.log_replay.specs.Sheds.{IsSameDevice}
use Rattle.log_replay.proofs.Trims.{IsOnTheWay}
use Rattle.log_replay.specs.Quiet.{IsSpent}
use Rattle.log_replay.proofs.mounting.trimming.trim.Given as goal

abbrev pub invariant-loop-ino : goal.invariant-loop-ino
invariant-loop-ino l = IsOnTheWay l.fn.k l.k l.ino × IsSpent l.fn.power l.power × (is_on l.power ≡ true) × IsSameDevice l.fn.k.cells l.k.cells
