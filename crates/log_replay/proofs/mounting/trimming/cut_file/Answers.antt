use Rattle.std.proofs.Common.{subst, sym, ◌≤◌}
use Rattle.layout_model.specs.block_counts.declared.TheConstants.{LONGEST_FILE}
use Rattle.staging_files.specs.k_split.MapChanges.{IsSizedWith}
use Rattle.log_replay.proofs.Devices.{device-mapped}
use Rattle.log_replay.proofs.Trims.{room-there, size-fits, size-images}
use Rattle.log_replay.proofs.mounting.trimming.cut_file.Goals as goal

pub set_size-requires-clause-size : goal.set_size-requires-clause-size
set_size-requires-clause-size c = subst (λ n. n ≤ LONGEST_FILE) (sym c.requires.own) (size-fits c.args.k.now c.args.ino c.requires.quiet c.requires.file)

pub set_size-requires-clause-room : goal.set_size-requires-clause-room
set_size-requires-clause-room c on = room-there c.args.k.now c.requires.quiet

pub returns-in-Ok-clause-images : goal.returns-in-Ok-clause-images
returns-in-Ok-clause-images c =
    size-images c.args.ino c.args.size c.args.k.now c.set_size.new.self c.set_size.result c.requires.quiet c.requires.file c.requires.own (c.set_size.ensures.answer c.requires.quiet.rest.unbatched)

pub returns-in-Err-PowerLost-clause-images : goal.returns-in-Err-PowerLost-clause-images
returns-in-Err-PowerLost-clause-images c =
    size-images c.args.ino c.args.size c.args.k.now c.set_size.new.self c.set_size.result c.requires.quiet c.requires.file c.requires.own (c.set_size.ensures.answer c.requires.quiet.rest.unbatched)

pub returns-in-Err-NoMemory-clause-images : goal.returns-in-Err-NoMemory-clause-images
returns-in-Err-NoMemory-clause-images c =
    size-images c.args.ino c.args.size c.args.k.now c.set_size.new.self c.set_size.result c.requires.quiet c.requires.file c.requires.own (c.set_size.ensures.answer c.requires.quiet.rest.unbatched)

pub returns-in-Ok-clause-device : goal.returns-in-Ok-clause-device
returns-in-Ok-clause-device c = device-mapped (IsSizedWith c.args.ino c.args.size c.args.k.now) c.args.k.now c.set_size.new.self c.set_size.result (c.set_size.ensures.answer c.requires.quiet.rest.unbatched)

pub returns-in-Err-PowerLost-clause-device : goal.returns-in-Err-PowerLost-clause-device
returns-in-Err-PowerLost-clause-device c = device-mapped (IsSizedWith c.args.ino c.args.size c.args.k.now) c.args.k.now c.set_size.new.self c.set_size.result (c.set_size.ensures.answer c.requires.quiet.rest.unbatched)

pub returns-in-Err-NoMemory-clause-device : goal.returns-in-Err-NoMemory-clause-device
returns-in-Err-NoMemory-clause-device c = device-mapped (IsSizedWith c.args.ino c.args.size c.args.k.now) c.args.k.now c.set_size.new.self c.set_size.result (c.set_size.ensures.answer c.requires.quiet.rest.unbatched)
