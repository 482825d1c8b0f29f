use Rattle.std.proofs.Common.{◌≡◌, ◌*◌, true}
use Rattle.world_image_laws.specs.pm_model.Powers.{is_on, Steps}
use Rattle.log_replay.proofs.Dropping.{HasShed}
use Rattle.log_replay.specs.Sheds.{IsSameDevice}
use Rattle.log_replay.proofs.settling.nameless.drop_nameless.Given as goal

abbrev pub invariant-loop-ino : goal.invariant-loop-ino
invariant-loop-ino l = HasShed l.fn.k l.k l.ino × Steps (256 * l.ino) l.fn.power l.power × (is_on l.power ≡ true) × IsSameDevice l.fn.k.cells l.k.cells
