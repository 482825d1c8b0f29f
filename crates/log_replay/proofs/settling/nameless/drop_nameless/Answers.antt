use Rattle.std.proofs.Common.{◌≡◌, ◌+◌, ◌∙◌, ap, sym, arith}
use Rattle.world_image_laws.specs.layout_model.Places.{Geometry}
use Rattle.log_replay.proofs.Devices.{device-none, device-then}
use Rattle.log_replay.proofs.DropImages.{images-shed, images-way}
use Rattle.log_replay.proofs.Dropping.{all_gone, all_steps, begun, first_steps, more_steps, next_shed}
use Rattle.log_replay.proofs.settling.nameless.drop_nameless.Goals as goal

pub returns-then-not-on-clause-steps : goal.returns-then-not-on-clause-steps
returns-then-not-on-clause-steps c = first_steps c.args.k.now.volume.geometry.inodes c.args.power.now

pub loop-ino-init : goal.loop-ino-init
loop-ino-init c = (begun c.args.k.now c.requires.rest, first_steps 5 c.args.power.now, sym c.on.ensures ∙ c.if-not-on.false, device-none c.args.k.now.cells)

pub loop-ino-preserved : goal.loop-ino-preserved
loop-ino-preserved c = (
  next_shed c.args.k.now c.loop-ino.k c.drop_if_nameless.new.k c.loop-ino.ino c.loop-ino.invariant.0 c.in-Done.ensures.done,
  more_steps (c.loop-ino.ino + 1) c.loop-ino.ino c.args.power.now c.loop-ino.power c.drop_if_nameless.new.power (omega arith) c.loop-ino.invariant.1
      c.drop_if_nameless.ensures.steps,
  c.in-Done.ensures.paid,
  device-then c.args.k.now.cells c.loop-ino.k.cells c.drop_if_nameless.new.k.cells c.loop-ino.invariant.3 c.drop_if_nameless.ensures.device,
)

pub returns-in-PowerLost-clause-steps : goal.returns-in-PowerLost-clause-steps
returns-in-PowerLost-clause-steps c =
    more_steps c.args.k.now.volume.geometry.inodes c.loop-ino.ino c.args.power.now c.loop-ino.power c.drop_if_nameless.new.power
    (omega (arith, ap (λ (g : Geometry). g.inodes) (c.behind-k.view_is ∙ c.geometry.ensures)))
    c.loop-ino.invariant.1 c.drop_if_nameless.ensures.steps

pub returns-clause-steps : goal.returns-clause-steps
returns-clause-steps c =
    all_steps c.args.k.now c.loop-ino.k c.loop-ino.ino c.args.power.now c.loop-ino.power c.loop-ino.invariant.0
    (λ least.
    let same : c.behind-k.inside.inodes ≡ c.args.k.now.volume.geometry.inodes = ap (λ (g : Geometry). g.inodes) (c.behind-k.view_is ∙ c.geometry.ensures) in
    let most = c.loop-ino.auto.ino-end (omega (arith, least, same)) in
    omega (arith, most, same))
    c.requires.rest c.loop-ino.invariant.1

pub returns-clause-done : goal.returns-clause-done
returns-clause-done c = all_gone c.args.k.now c.loop-ino.k c.loop-ino.ino c.loop-ino.invariant.0
    (omega (arith, ap (λ (g : Geometry). g.inodes) (c.behind-k.view_is ∙ c.geometry.ensures)))

pub returns-then-not-on-clause-images : goal.returns-then-not-on-clause-images
returns-then-not-on-clause-images c = images-way c.args.k.now c.args.k.now 5 c.requires (begun c.args.k.now c.requires.rest)

pub returns-in-PowerLost-clause-images : goal.returns-in-PowerLost-clause-images
returns-in-PowerLost-clause-images c =
    images-shed c.args.k.now c.loop-ino.k c.drop_if_nameless.new.k c.loop-ino.ino c.loop-ino.ino c.requires c.loop-ino.invariant.0 c.in-PowerLost.ensures.lost

pub returns-clause-images : goal.returns-clause-images
returns-clause-images c = images-way c.args.k.now c.loop-ino.k c.loop-ino.ino c.requires c.loop-ino.invariant.0

pub returns-then-not-on-clause-device : goal.returns-then-not-on-clause-device
returns-then-not-on-clause-device c = device-none c.args.k.now.cells

pub returns-in-PowerLost-clause-device : goal.returns-in-PowerLost-clause-device
returns-in-PowerLost-clause-device c =
    device-then c.args.k.now.cells c.loop-ino.k.cells c.drop_if_nameless.new.k.cells c.loop-ino.invariant.3 c.drop_if_nameless.ensures.device

pub returns-clause-device : goal.returns-clause-device
returns-clause-device c = c.loop-ino.invariant.3
