use Rattle.std.proofs.Common.{◌≡◌, ◌<◌, ◌-◌, ◌*◌, ap, arith, length, refl, take}
use Rattle.write_end.specs.Landing.{front_bytes, front_end, front_start}
use Rattle.write_end.proofs.ends.placing.place_front.Goals as goal

-- a write has so few bytes that they reach 33 blocks at most
pub returns-clause-steps : goal.returns-clause-steps
returns-clause-steps c =
    let same = ap length c.put_bytes-bytes.ensures in
    let at = c.saturating_sub-at.ensures in
    let end = c.from-end.ensures in
    let has : front_start c.args.draft.now c.args.call.now < front_end c.args.draft.now = omega (arith, same, at, end, c.if-end-at.false) in
    let short = (c.requires.can has).short in
    let front : length (take (4096 * c.from-end.result - c.saturating_sub-at.result) c.put_bytes-bytes.result.now) ≡ length (front_bytes c.args.draft.now c.args.call.now) = rw (at, end, c.put_bytes-bytes.ensures) refl in
    let steps = c.put_in_place.ensures.steps in
    record { given = steps.given; on_before = steps.on_before; later = steps.later; bound = omega (arith, steps.bound, short, front) }
