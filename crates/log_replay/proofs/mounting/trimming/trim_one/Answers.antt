use Rattle.log_replay.proofs.Devices.{device-none}
use Rattle.log_replay.proofs.Keeping.{images-own, shows-first}
use Rattle.log_replay.proofs.Trims.{trimmed-one}
use Rattle.log_replay.proofs.mounting.trimming.trim_one.Goals as goal

pub returns-in-None-clause-images : goal.returns-in-None-clause-images
returns-in-None-clause-images c = images-own c.args.k.now c.args.k.now c.requires.quiet.rest.single (shows-first c.args.k.now c.requires.quiet)

pub returns-in-None-clause-device : goal.returns-in-None-clause-device
returns-in-None-clause-device c = device-none c.args.k.now.cells

pub returns-in-Some-clause-done : goal.returns-in-Some-clause-done
returns-in-Some-clause-done c =
    trimmed-one c.args.ino c.in-Some.size c.args.k.now c.cut_file.new.k c.cut_file.result c.in-Some.ensures.some.1 c.in-Some.ensures.some.2 c.in-Some.ensures.some.0 c.cut_file.ensures.done
