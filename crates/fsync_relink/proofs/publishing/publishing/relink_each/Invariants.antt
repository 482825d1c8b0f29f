use Rattle.std.proofs.Common.{◌≡◌, ◌*◌, ◌^◌, drop, true}
use Rattle.log_laws.specs.pm_model.Powers.{is_on, Steps}
use Rattle.fsync_relink.proofs.WayLaws.{IsOnTheWay}
use Rattle.fsync_relink.proofs.publishing.publishing.relink_each.Given as goal

abbrev pub invariant-loop-place : goal.invariant-loop-place
invariant-loop-place l =
    IsOnTheWay l.ino l.size l.runs (drop l.place l.runs) l.fn.k l.k × Steps (2 ^ 15 * l.place) l.fn.power l.power × (is_on l.power ≡ true)
