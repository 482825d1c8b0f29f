use Rattle.std.proofs.Common.{◌+◌, ◌<◌, length, drop, ◌∷◌, Ok, Err, refl, sym, ◌∙◌, subst, arith}
use Rattle.std.proofs.lemmas.Bool.{both_ways}
use Rattle.fsync_relink.specs.log_laws.pm_model.PowerLaws.{Steps-none}
use Rattle.k_split.specs.k_map_plans.Plans.{MayMove}
use Rattle.log_replay.proofs.Devices.{device-mapped, device-none, device-then}
use Rattle.k_split.specs.MapChanges.{IsMovedWith, IsRelinkAnswer}
use Rattle.log_replay.specs.Replays.{IsReplayAnswer, IsReplayPaid}
use Rattle.log_replay.proofs.Steps.{answer-stopped, as-many, blank, entry_at, IsOnTheWay, may-move, more-steps, room-there, shown-so_far, way-at, way-begins, way-goes_on, way-stops, way-stops-paid, way-whole}
use Rattle.log_replay.proofs.replays.replays.replay.Goals as goal

pub returns-then-not-on-clause-images : goal.returns-then-not-on-clause-images
returns-then-not-on-clause-images c = shown-so_far c.args.k.now c.args.entries.now c.args.k.now c.requires.rest (way-begins c.args.k.now c.args.entries.now c.requires)

pub loop-entry-init : goal.loop-entry-init
loop-entry-init c = (way-begins c.args.k.now c.args.entries.now c.requires, Steps-none c.args.power.now, sym c.on.ensures ∙ c.if-not-on.false, device-none c.args.k.now.cells)

pub relink-requires-clause-awake : goal.relink-requires-clause-awake
relink-requires-clause-awake c lost = absurd (both_ways c.loop-entry.k.lost c.loop-entry.invariant.0.rest.on lost)

pub relink-requires-clause-may : goal.relink-requires-clause-may
relink-requires-clause-may c on =
    let ds = c.args.entries.now in
    let i = c.loop-entry.entry-index in
    let below : c.loop-entry.entry-index < length c.args.entries.now = omega arith in
    let e = entry_at ds i in
    let way : IsOnTheWay c.args.k.now (entry_at c.args.entries.now c.loop-entry.entry-index ∷ drop (c.loop-entry.entry-index + 1) c.args.entries.now) c.loop-entry.k =
    way-at c.args.k.now ds i blank e c.loop-entry.k below refl c.loop-entry.invariant.0
    in
    subst (λ m. MayMove m c.loop-entry.k.volume) (sym c.move_for.ensures) (may-move c.args.k.now e (drop (i + 1) ds) c.loop-entry.k way)

pub relink-requires-clause-home : goal.relink-requires-clause-home
relink-requires-clause-home c on b i within at = c.loop-entry.invariant.0.rest.single i

pub relink-requires-clause-room : goal.relink-requires-clause-room
relink-requires-clause-room c on =
    let ds = c.args.entries.now in
    let i = c.loop-entry.entry-index in
    let below : c.loop-entry.entry-index < length c.args.entries.now = omega arith in
    let e = entry_at ds i in
    let way : IsOnTheWay c.args.k.now (entry_at c.args.entries.now c.loop-entry.entry-index ∷ drop (c.loop-entry.entry-index + 1) c.args.entries.now) c.loop-entry.k =
    way-at c.args.k.now ds i blank e c.loop-entry.k below refl c.loop-entry.invariant.0
    in
    room-there c.args.k.now e (drop (i + 1) ds) c.loop-entry.k way

pub returns-in-Err-clause-steps : goal.returns-in-Err-clause-steps
returns-in-Err-clause-steps c =
    more-steps (length c.args.entries.now) c.loop-entry.entry-index c.args.power.now c.loop-entry.power c.relink.new.power (omega arith)
    c.loop-entry.invariant.1 (c.relink.ensures.steps c.loop-entry.invariant.0.rest.unbatched)

pub returns-in-Err-clause-paid : goal.returns-in-Err-clause-paid
returns-in-Err-clause-paid c =
    let answer = subst (λ m. IsRelinkAnswer m c.loop-entry.k c.relink.new.self (Err c.in-Err.fault)) c.move_for.ensures (c.in-Err.ensures.answer c.loop-entry.invariant.0.rest.unbatched) in
    subst (IsReplayPaid c.relink.new.power) (sym c.stopped_by.ensures)
    (way-stops-paid (entry_at c.args.entries.now c.loop-entry.entry-index) c.loop-entry.k c.relink.new.self c.loop-entry.power c.relink.new.power c.in-Err.fault answer (c.in-Err.ensures.paid c.loop-entry.invariant.0.rest.unbatched))

pub returns-in-Err-clause-answer : goal.returns-in-Err-clause-answer
returns-in-Err-clause-answer c =
    let answer = subst (λ m. IsRelinkAnswer m c.loop-entry.k c.relink.new.self (Err c.in-Err.fault)) c.move_for.ensures (c.in-Err.ensures.answer c.loop-entry.invariant.0.rest.unbatched) in
    subst (IsReplayAnswer c.args.k.now c.relink.new.self) (sym c.stopped_by.ensures)
    (answer-stopped (entry_at c.args.entries.now c.loop-entry.entry-index) c.args.k.now c.loop-entry.k c.relink.new.self c.in-Err.fault answer)

pub returns-in-Err-clause-images : goal.returns-in-Err-clause-images
returns-in-Err-clause-images c =
    let ds = c.args.entries.now in
    let i = c.loop-entry.entry-index in
    let below : c.loop-entry.entry-index < length c.args.entries.now = omega arith in
    let e = entry_at ds i in
    let way : IsOnTheWay c.args.k.now (entry_at c.args.entries.now c.loop-entry.entry-index ∷ drop (c.loop-entry.entry-index + 1) c.args.entries.now) c.loop-entry.k =
    way-at c.args.k.now ds i blank e c.loop-entry.k below refl c.loop-entry.invariant.0
    in
    let answer = subst (λ m. IsRelinkAnswer m c.loop-entry.k c.relink.new.self (Err c.in-Err.fault)) c.move_for.ensures (c.in-Err.ensures.answer c.loop-entry.invariant.0.rest.unbatched) in
    way-stops c.args.k.now e (drop (i + 1) ds) c.loop-entry.k c.relink.new.self c.in-Err.fault c.requires.rest way answer

pub loop-entry-preserved : goal.loop-entry-preserved
loop-entry-preserved c =
    let ds = c.args.entries.now in
    let i = c.loop-entry.entry-index in
    let below : c.loop-entry.entry-index < length c.args.entries.now = omega arith in
    let e = entry_at ds i in
    let way : IsOnTheWay c.args.k.now (entry_at c.args.entries.now c.loop-entry.entry-index ∷ drop (c.loop-entry.entry-index + 1) c.args.entries.now) c.loop-entry.k =
    way-at c.args.k.now ds i blank e c.loop-entry.k below refl c.loop-entry.invariant.0
    in
    let gave = subst (λ m. IsRelinkAnswer m c.loop-entry.k c.relink.new.self (Ok tt)) c.move_for.ensures (c.in-Ok.ensures.answer c.loop-entry.invariant.0.rest.unbatched) in (
      way-goes_on c.args.k.now e (drop (i + 1) ds) c.loop-entry.k way c.relink.new.self gave,
      more-steps (i + 1) i c.args.power.now c.loop-entry.power c.relink.new.power (omega arith) c.loop-entry.invariant.1 (c.relink.ensures.steps c.loop-entry.invariant.0.rest.unbatched),
      (c.in-Ok.ensures.paid c.loop-entry.invariant.0.rest.unbatched).0,
      device-then c.args.k.now.cells c.loop-entry.k.cells c.relink.new.self.cells c.loop-entry.invariant.3 (device-mapped (IsMovedWith c.move_for.result c.loop-entry.k) c.loop-entry.k c.relink.new.self c.relink.result (c.relink.ensures.answer c.loop-entry.invariant.0.rest.unbatched)),
    )

pub returns-clause-steps : goal.returns-clause-steps
returns-clause-steps c = as-many (length c.args.entries.now) c.loop-entry.entry-index c.args.power.now c.loop-entry.power (omega arith) c.loop-entry.invariant.1

pub returns-clause-answer : goal.returns-clause-answer
returns-clause-answer c = way-whole c.args.k.now c.args.entries.now c.loop-entry.entry-index c.loop-entry.k (omega arith) c.loop-entry.invariant.0

pub returns-clause-images : goal.returns-clause-images
returns-clause-images c = shown-so_far c.args.k.now (drop c.loop-entry.entry-index c.args.entries.now) c.loop-entry.k c.requires.rest c.loop-entry.invariant.0

pub returns-then-not-on-clause-device : goal.returns-then-not-on-clause-device
returns-then-not-on-clause-device c = device-none c.args.k.now.cells

pub returns-in-Err-clause-device : goal.returns-in-Err-clause-device
returns-in-Err-clause-device c =
    device-then c.args.k.now.cells c.loop-entry.k.cells c.relink.new.self.cells c.loop-entry.invariant.3
    (device-mapped (IsMovedWith c.move_for.result c.loop-entry.k) c.loop-entry.k c.relink.new.self c.relink.result (c.relink.ensures.answer c.loop-entry.invariant.0.rest.unbatched))

pub returns-clause-device : goal.returns-clause-device
returns-clause-device c = c.loop-entry.invariant.3
