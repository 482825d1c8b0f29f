use Rattle.std.proofs.Common.{None, ◌≡◌, inr}
use Rattle.staging_files.specs.k_map_plans.Resets.{reset}
use Rattle.log_replay.proofs.Devices.{device-answer, device-none}
use Rattle.log_replay.proofs.Resets.{high-file, reset-images}
use Rattle.log_replay.proofs.Keeping.{images-own, shows-first}
use Rattle.log_replay.proofs.mounting.resetting.reset_one.Goals as goal

pub reset_applied-requires-clause-file : goal.reset_applied-requires-clause-file
reset_applied-requires-clause-file c on = high-file c.args.k.now c.args.ino c.requires.may.quiet (c.is_high.ensures.0 c.if-not-is_high.false)

pub is_high-requires : goal.is_high-requires
is_high-requires c = c.requires.may.quiet

pub returns-in-Ok-clause-done : goal.returns-in-Ok-clause-done
returns-in-Ok-clause-done c =
    inr (high-file c.args.k.now c.args.ino c.requires.may.quiet (c.is_high.ensures.0 c.if-not-is_high.false), (c.in-Ok.ensures.answer c.requires.may.quiet.rest.unbatched))

pub returns-then-not-is_high-clause-images : goal.returns-then-not-is_high-clause-images
returns-then-not-is_high-clause-images c =
    images-own c.args.k.now c.args.k.now c.requires.may.quiet.rest.single (shows-first c.args.k.now c.requires.may.quiet)

pub returns-in-Ok-clause-images : goal.returns-in-Ok-clause-images
returns-in-Ok-clause-images c =
    reset-images c.args.ino c.args.k.now c.reset_applied.new.self c.reset_applied.result c.requires.may
    (high-file c.args.k.now c.args.ino c.requires.may.quiet (c.is_high.ensures.0 c.if-not-is_high.false)) (c.reset_applied.ensures.answer c.requires.may.quiet.rest.unbatched)

pub returns-in-Err-PowerLost-clause-images : goal.returns-in-Err-PowerLost-clause-images
returns-in-Err-PowerLost-clause-images c =
    reset-images c.args.ino c.args.k.now c.reset_applied.new.self c.reset_applied.result c.requires.may
    (high-file c.args.k.now c.args.ino c.requires.may.quiet (c.is_high.ensures.0 c.if-not-is_high.false)) (c.reset_applied.ensures.answer c.requires.may.quiet.rest.unbatched)

pub returns-in-Err-NoMemory-clause-images : goal.returns-in-Err-NoMemory-clause-images
returns-in-Err-NoMemory-clause-images c =
    reset-images c.args.ino c.args.k.now c.reset_applied.new.self c.reset_applied.result c.requires.may
    (high-file c.args.k.now c.args.ino c.requires.may.quiet (c.is_high.ensures.0 c.if-not-is_high.false)) (c.reset_applied.ensures.answer c.requires.may.quiet.rest.unbatched)

pub returns-then-not-is_high-clause-device : goal.returns-then-not-is_high-clause-device
returns-then-not-is_high-clause-device c = device-none c.args.k.now.cells

pub returns-in-Ok-clause-device : goal.returns-in-Ok-clause-device
returns-in-Ok-clause-device c = device-answer None (λ done w. w ≡ reset c.args.ino c.args.k.now.volume) c.args.k.now c.reset_applied.new.self c.reset_applied.result (c.reset_applied.ensures.answer c.requires.may.quiet.rest.unbatched)

pub returns-in-Err-PowerLost-clause-device : goal.returns-in-Err-PowerLost-clause-device
returns-in-Err-PowerLost-clause-device c = device-answer None (λ done w. w ≡ reset c.args.ino c.args.k.now.volume) c.args.k.now c.reset_applied.new.self c.reset_applied.result (c.reset_applied.ensures.answer c.requires.may.quiet.rest.unbatched)

pub returns-in-Err-NoMemory-clause-device : goal.returns-in-Err-NoMemory-clause-device
returns-in-Err-NoMemory-clause-device c = device-answer None (λ done w. w ≡ reset c.args.ino c.args.k.now.volume) c.args.k.now c.reset_applied.new.self c.reset_applied.result (c.reset_applied.ensures.answer c.requires.may.quiet.rest.unbatched)
