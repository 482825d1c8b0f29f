use Rattle.std.proofs.Common.{◌≡◌, ◌∙◌, ap, arith, sym, true}
use Rattle.k_check.specs.layout_model.Places.{Geometry}
use Rattle.k_check.specs.pm_model.Powers.{is_on}
use Rattle.log_replay.proofs.Devices.{device-none, device-then}
use Rattle.log_replay.proofs.Keeping.{images-own, shows-first}
use Rattle.log_replay.proofs.Spending.{spent-none, spent-then}
use Rattle.log_replay.proofs.Trims.{way-begins, way-ends, way-images, way-next}
use Rattle.log_replay.specs.Sweeps.{IsTrimmedOne}
use Rattle.log_replay.proofs.mounting.trimming.trim.Goals as goal

pub returns-then-not-on-clause-spent : goal.returns-then-not-on-clause-spent
returns-then-not-on-clause-spent c = spent-none c.args.power.now

pub loop-ino-init : goal.loop-ino-init
loop-ino-init c = (way-begins c.args.k.now c.requires, spent-none c.args.power.now, sym c.on.ensures ∙ c.if-not-on.false, device-none c.args.k.now.cells)

pub loop-ino-preserved : goal.loop-ino-preserved
loop-ino-preserved c =
    let one : IsTrimmedOne c.loop-ino.ino c.loop-ino.k c.trim_one.new.k = c.in_ok-trim_one.ensures.done in
    let on : is_on c.trim_one.new.power ≡ true = c.in_ok-trim_one.ensures.paid in (
      way-next c.args.k.now c.loop-ino.k c.trim_one.new.k c.loop-ino.ino c.loop-ino.invariant.0 one,
      spent-then c.args.power.now c.loop-ino.power c.trim_one.new.power c.loop-ino.invariant.1 c.trim_one.ensures.spent,
      on,
      device-then c.args.k.now.cells c.loop-ino.k.cells c.trim_one.new.k.cells c.loop-ino.invariant.3 c.trim_one.ensures.device,
    )

pub returns-in_err-trim_one-clause-spent : goal.returns-in_err-trim_one-clause-spent
returns-in_err-trim_one-clause-spent c =
    spent-then c.args.power.now c.loop-ino.power c.trim_one.new.power c.loop-ino.invariant.1 c.trim_one.ensures.spent

pub returns-clause-done : goal.returns-clause-done
returns-clause-done c =
    way-ends c.args.k.now c.loop-ino.k c.loop-ino.ino c.loop-ino.invariant.0
    (omega (arith, ap (λ (g : Geometry). g.inodes) (c.behind-k.view_is ∙ c.geometry.ensures)))

pub returns-then-not-on-clause-images : goal.returns-then-not-on-clause-images
returns-then-not-on-clause-images c = images-own c.args.k.now c.args.k.now c.requires.rest.single (shows-first c.args.k.now c.requires)

pub returns-in_err-trim_one-clause-images : goal.returns-in_err-trim_one-clause-images
returns-in_err-trim_one-clause-images c =
    way-images c.args.k.now c.loop-ino.k c.loop-ino.ino c.trim_one.new.k.cells c.requires.rest.single c.loop-ino.invariant.0 c.trim_one.ensures.images

pub returns-clause-images : goal.returns-clause-images
returns-clause-images c = images-own c.args.k.now c.loop-ino.k c.requires.rest.single c.loop-ino.invariant.0.shows

pub returns-then-not-on-clause-device : goal.returns-then-not-on-clause-device
returns-then-not-on-clause-device c = device-none c.args.k.now.cells

pub returns-in_err-trim_one-clause-device : goal.returns-in_err-trim_one-clause-device
returns-in_err-trim_one-clause-device c =
    device-then c.args.k.now.cells c.loop-ino.k.cells c.trim_one.new.k.cells c.loop-ino.invariant.3 c.trim_one.ensures.device

pub returns-clause-device : goal.returns-clause-device
returns-clause-device c = c.loop-ino.invariant.3
