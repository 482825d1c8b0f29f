use Rattle.log_replay.proofs.Keeping.{home-single}
use Rattle.log_replay.proofs.MountingMounting.{checked-bytes, fits-address}
use Rattle.log_replay.proofs.mounting.mounts.live_of.Goals as goal

pub live_log-requires-clause-home : goal.live_log-requires-clause-home
live_log-requires-clause-home c = home-single c.args.pm.now c.requires.single

pub live_log-requires-clause-fits : goal.live_log-requires-clause-fits
live_log-requires-clause-fits c = fits-address c.args.pm.now c.args.geometry.now c.requires.size c.requires.checked

pub live_log-requires-clause-checked : goal.live_log-requires-clause-checked
live_log-requires-clause-checked c = checked-bytes c.args.pm.now c.args.geometry.now c.requires.size c.requires.checked
