use Rattle.std.proofs.Common.{◌+◌, ◌*◌, drop, length, Err, Ok, refl, sym, subst, arith}
use Rattle.std.proofs.lemmas.Bool.{both_ways}
use Rattle.log_laws.specs.pm_model.PowerLaws.{Steps-none}
use Rattle.k_split.specs.MapChanges.{IsRelinkAnswer}
use Rattle.fsync_relink.specs.Publishes.{IsPublishPaid, IsRelinkedEach}
use Rattle.fsync_relink.proofs.WayLaws.{move-is, steps-on, steps-within, way-all, way-at, way-goes_on, way-home, way-may, way-room, way-starts, way-stops, way-stops-paid}
use Rattle.fsync_relink.proofs.publishing.publishing.relink_each.Goals as goal

pub loop-place-init : goal.loop-place-init
loop-place-init c = (
  way-starts c.args.ino c.args.size c.args.runs.now c.args.k.now c.requires.may c.requires.on c.requires.order c.requires.unbatched,
  Steps-none c.args.power.now,
  c.requires.power,
)

pub length_then-then-requires : goal.length_then-then-requires
length_then-then-requires c = c.loop-place.invariant.0.may.file

pub relink-requires-clause-awake : goal.relink-requires-clause-awake
relink-requires-clause-awake c lost = absurd (both_ways c.loop-place.k.lost c.loop-place.invariant.0.on lost)

pub relink-requires-clause-may : goal.relink-requires-clause-may
relink-requires-clause-may c on =
    let way = way-at c.args.ino c.args.size c.args.runs.now c.loop-place.place _ _ c.args.k.now c.loop-place.k c.loop-place-test.true refl c.loop-place.invariant.0 in
    let is = move-is c.args.ino c.args.size c.length_then-then.result c.loop-place.place _ c.args.runs.now c.loop-place.k c.move_of.result c.length_then-then.ensures c.move_of.ensures in
    way-may c.args.ino c.args.size c.args.runs.now _ (drop (c.loop-place.place + 1) c.args.runs.now) c.args.k.now c.loop-place.k c.move_of.result way is

pub relink-requires-clause-home : goal.relink-requires-clause-home
relink-requires-clause-home c on =
    let way = way-at c.args.ino c.args.size c.args.runs.now c.loop-place.place _ _ c.args.k.now c.loop-place.k c.loop-place-test.true refl c.loop-place.invariant.0 in
    let is = move-is c.args.ino c.args.size c.length_then-then.result c.loop-place.place _ c.args.runs.now c.loop-place.k c.move_of.result c.length_then-then.ensures c.move_of.ensures in
    way-home c.args.ino c.args.size c.args.runs.now _ (drop (c.loop-place.place + 1) c.args.runs.now) c.args.k.now c.loop-place.k c.move_of.result way is

pub relink-requires-clause-room : goal.relink-requires-clause-room
relink-requires-clause-room c on =
    way-room c.args.ino c.args.size c.args.runs.now c.loop-place.place c.args.k.now c.loop-place.k c.loop-place-test.true c.loop-place.invariant.0

pub returns-in-Err-clause-steps : goal.returns-in-Err-clause-steps
returns-in-Err-clause-steps c =
    steps-within (32768 * (c.loop-place.place + 1)) (32768 * length c.args.runs.now) c.args.power.now c.relink.new.power (omega (arith, c.loop-place-test.true))
    (steps-on c.loop-place.place c.args.power.now c.loop-place.power c.relink.new.power c.loop-place.invariant.1 (c.in-Err.ensures.steps c.loop-place.invariant.0.unbatched))

pub returns-in-Err-clause-paid : goal.returns-in-Err-clause-paid
returns-in-Err-clause-paid c =
    let is = move-is c.args.ino c.args.size c.length_then-then.result c.loop-place.place _ c.args.runs.now c.loop-place.k c.move_of.result c.length_then-then.ensures c.move_of.ensures in
    subst (IsPublishPaid c.relink.new.power) (sym c.stopped_by.ensures)
    (way-stops-paid c.args.ino c.args.size _ (drop (c.loop-place.place + 1) c.args.runs.now) c.loop-place.k c.relink.new.self c.loop-place.power c.relink.new.power c.in-Err.fault
    (subst (λ m. IsRelinkAnswer m c.loop-place.k c.relink.new.self (Err c.in-Err.fault)) is (c.in-Err.ensures.answer c.loop-place.invariant.0.unbatched)) (c.in-Err.ensures.paid c.loop-place.invariant.0.unbatched))

pub returns-in-Err-clause-answer : goal.returns-in-Err-clause-answer
returns-in-Err-clause-answer c =
    let way = way-at c.args.ino c.args.size c.args.runs.now c.loop-place.place _ _ c.args.k.now c.loop-place.k c.loop-place-test.true refl c.loop-place.invariant.0 in
    let is = move-is c.args.ino c.args.size c.length_then-then.result c.loop-place.place _ c.args.runs.now c.loop-place.k c.move_of.result c.length_then-then.ensures c.move_of.ensures in
    subst (IsRelinkedEach c.args.ino c.args.size c.args.runs.now c.args.k.now c.relink.new.self) (sym c.stopped_by.ensures)
    (way-stops c.args.ino c.args.size c.args.runs.now _ (drop (c.loop-place.place + 1) c.args.runs.now) c.args.k.now c.loop-place.k c.relink.new.self c.in-Err.fault way
    (subst (λ m. IsRelinkAnswer m c.loop-place.k c.relink.new.self (Err c.in-Err.fault)) is (c.in-Err.ensures.answer c.loop-place.invariant.0.unbatched)))

pub loop-place-preserved : goal.loop-place-preserved
loop-place-preserved c =
    let way = way-at c.args.ino c.args.size c.args.runs.now c.loop-place.place _ _ c.args.k.now c.loop-place.k c.loop-place-test.true refl c.loop-place.invariant.0 in
    let is = move-is c.args.ino c.args.size c.length_then-then.result c.loop-place.place _ c.args.runs.now c.loop-place.k c.move_of.result c.length_then-then.ensures c.move_of.ensures in (
      way-goes_on c.args.ino c.args.size c.args.runs.now _ (drop (c.loop-place.place + 1) c.args.runs.now) c.args.k.now c.loop-place.k c.relink.new.self way
          (subst (λ m. IsRelinkAnswer m c.loop-place.k c.relink.new.self (Ok tt)) is (c.in-Ok.ensures.answer c.loop-place.invariant.0.unbatched)),
      steps-on c.loop-place.place c.args.power.now c.loop-place.power c.relink.new.power c.loop-place.invariant.1 (c.in-Ok.ensures.steps c.loop-place.invariant.0.unbatched),
      (c.in-Ok.ensures.paid c.loop-place.invariant.0.unbatched).0,
    )

pub returns-clause-steps : goal.returns-clause-steps
returns-clause-steps c =
    steps-within (32768 * c.loop-place.place) (32768 * length c.args.runs.now) c.args.power.now c.loop-place.power (omega (arith, c.loop-place.auto.place-end)) c.loop-place.invariant.1

pub returns-clause-paid : goal.returns-clause-paid
returns-clause-paid c = c.loop-place.invariant.2

pub returns-clause-answer : goal.returns-clause-answer
returns-clause-answer c =
    way-all c.args.ino c.args.size c.args.runs.now c.loop-place.place c.args.k.now c.loop-place.k c.loop-place-test.false c.loop-place.invariant.0
