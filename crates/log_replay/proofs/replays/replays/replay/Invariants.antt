use Rattle.std.proofs.Common.{◌≡◌, ◌*◌, ◌^◌, drop, true}
use Rattle.fsync_relink.specs.log_laws.pm_model.Powers.{is_on, Steps}
use Rattle.log_replay.specs.Sheds.{IsSameDevice}
use Rattle.log_replay.proofs.Steps.{IsOnTheWay}
use Rattle.log_replay.proofs.replays.replays.replay.Given as goal

abbrev pub invariant-loop-entry : goal.invariant-loop-entry
invariant-loop-entry l =
    IsOnTheWay l.fn.k (drop l.entry-index l.entries) l.k × Steps (2 ^ 15 * l.entry-index) l.fn.power l.power × (is_on l.power ≡ true) × IsSameDevice l.fn.k.cells l.k.cells
