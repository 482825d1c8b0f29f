use Rattle.split_top.proofs.Remounts.{can-mount, taken-crashed, taken-whole}
use Rattle.split_top.proofs.Results.{follows}
use Rattle.split_top.proofs.remounting.crashed_device.Goals as goal

pub crash_image-requires-clause-home : goal.crash_image-requires-clause-home
crash_image-requires-clause-home c = c.requires.home

pub crash_image-requires-clause-device : goal.crash_image-requires-clause-device
crash_image-requires-clause-device c = c.requires.size

pub device-requires : goal.device-requires
device-requires c =
    taken-whole c.args.geometry.now c.args.choice c.args.pm.now c.in_ok-bytes.bytes.items c.requires
    (record { image = c.in_ok-bytes.ensures.image; honest = c.in_ok-bytes.ensures.honest; crash = c.in_ok-bytes.ensures.settled })

pub returns-clause-crashed : goal.returns-clause-crashed
returns-clause-crashed c =
    follows c.device.result _ _
    (λ crashed is. taken-crashed c.args.geometry.now c.args.choice c.args.pm.now c.in_ok-bytes.bytes.items crashed
    (record { image = c.in_ok-bytes.ensures.image; honest = c.in_ok-bytes.ensures.honest; crash = c.in_ok-bytes.ensures.settled }) is)
    c.device.ensures

pub returns-clause-mounts : goal.returns-clause-mounts
returns-clause-mounts c =
    follows c.device.result _ _
    (λ crashed is. can-mount c.args.geometry.now c.args.choice c.args.pm.now crashed c.requires
    (taken-crashed c.args.geometry.now c.args.choice c.args.pm.now c.in_ok-bytes.bytes.items crashed
    (record { image = c.in_ok-bytes.ensures.image; honest = c.in_ok-bytes.ensures.honest; crash = c.in_ok-bytes.ensures.settled }) is))
    c.device.ensures
