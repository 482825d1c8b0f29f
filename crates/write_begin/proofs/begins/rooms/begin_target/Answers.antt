use Rattle.std.proofs.Common.{◌≡◌, ◌∙◌, ℕ, arith, true, false, Option, length, ap, refl, subst, sym, inl, inr}
use Rattle.std.proofs.lemmas.Result.{err_from_is_err_and}
use Rattle.data_route.specs.declared.writes.WritePlan.{WritePlan}
use Rattle.data_route.specs.Writes.{plan_of}
use Rattle.posix_types.specs.declared.call.Mode.{Mode}
use Rattle.write_plan.specs.pm_model.Powers.{Steps, Supply}
use Rattle.write_begin.specs.Begins.{FillsFor, LacksFor}
use Rattle.write_begin.specs.Rooms.{FillsPart, LieWithin}
use Rattle.write_begin.proofs.Fronts.{are_present, filled_maps, filled_on, has_runs, holes_fit, lacks_maps, part_maps, room_on}
use Rattle.write_begin.proofs.Losses.{late_of}
use Rattle.write_begin.proofs.Maps.{maps_then}
use Rattle.write_begin.proofs.PartGoes.{no_memory}
use Rattle.write_begin.proofs.PartPlans.{no_steps, places_within, strict_places_none, strict_spared}
use Rattle.write_begin.proofs.Spared.{line_there}
use Rattle.write_begin.proofs.Steps.{goes_then}
use Rattle.write_begin.specs.Goes.{filled_in}
use Rattle.write_begin.proofs.begins.rooms.begin_target.Goals as goal

pub plan_write-plan-requires-clause-file : goal.plan_write-plan-requires-clause-file
plan_write-plan-requires-clause-file c = omega (arith, c.size-size.ensures.size, c.size-size.ensures.small, c.requires.target.size)

pub size-size-requires : goal.size-size-requires
size-size-requires c = line_there c.args.mode c.args.k.now c.args.staging.now c.args.files.now c.args.who c.args.target c.args.bytes.now c.requires.goes.0

pub fill_front-requires-clause-has : goal.fill_front-requires-clause-has
fill_front-requires-clause-has c = has_runs c.args.mode c.args.k.now c.args.staging.now c.args.files.now c.args.who c.args.target c.args.bytes.now c.requires.goes.0

pub fill_front-requires-clause-within : goal.fill_front-requires-clause-within
fill_front-requires-clause-within c =
    subst (LieWithin c.args.files.now c.args.target.ino) (sym (ap (λ (p : WritePlan). p.in_place) (c.plan_write-plan.ensures ∙ ap (λ (n : ℕ). plan_of c.args.mode c.args.target.size c.args.target.start n) c.len.ensures)))
    (places_within c.args.mode c.args.files.now c.args.target.ino c.args.target.size c.args.target.start (length c.args.bytes.now) c.requires.mode c.requires.target.some c.requires.target.most c.requires.target.fits c.requires.target.size)

-- ---- the holes are not filled

pub returns-in_err-fill_front-clause-keeps : goal.returns-in_err-fill_front-clause-keeps
returns-in_err-fill_front-clause-keeps c = λ on.
    let part : FillsPart c.args.k.now c.fill_front.new.k c.args.staging.now c.args.files.now c.args.target.ino (plan_of c.args.mode c.args.target.size c.args.target.start (length c.args.bytes.now)).in_place =
    subst (FillsPart c.args.k.now c.fill_front.new.k c.args.staging.now c.args.files.now c.args.target.ino) (ap (λ (p : WritePlan). p.in_place) (c.plan_write-plan.ensures ∙ ap (λ (n : ℕ). plan_of c.args.mode c.args.target.size c.args.target.start n) c.len.ensures)) c.in_err-fill_front.ensures.answer in
    part_maps c.args.k.now c.fill_front.new.k c.args.staging.now c.args.files.now c.args.target.ino c.args.mode (plan_of c.args.mode c.args.target.size c.args.target.start (length c.args.bytes.now)).in_place
    (λ strict. ap (λ (m : Mode). (plan_of m c.args.target.size c.args.target.start (length c.args.bytes.now)).in_place) strict ∙ strict_places_none c.args.target.size c.args.target.start (length c.args.bytes.now) c.requires.target.some) part

pub returns-in_err-fill_front-clause-steps_strict : goal.returns-in_err-fill_front-clause-steps_strict
returns-in_err-fill_front-clause-steps_strict c = λ strict.
    no_steps 65536 c.args.power.now c.fill_front.new.power (strict_spared c.args.mode c.args.target.size c.args.target.start (length c.args.bytes.now) c.plan_write-plan.result c.args.power.now c.fill_front.new.power c.requires.target.some (c.plan_write-plan.ensures ∙ ap (λ (n : ℕ). plan_of c.args.mode c.args.target.size c.args.target.start n) c.len.ensures) c.in_err-fill_front.ensures.spared strict)

pub returns-in-PowerLost-clause-steps_strict : goal.returns-in-PowerLost-clause-steps_strict
returns-in-PowerLost-clause-steps_strict c = λ strict.
    no_steps 65536 c.args.power.now c.fill_front.new.power (strict_spared c.args.mode c.args.target.size c.args.target.start (length c.args.bytes.now) c.plan_write-plan.result c.args.power.now c.fill_front.new.power c.requires.target.some (c.plan_write-plan.ensures ∙ ap (λ (n : ℕ). plan_of c.args.mode c.args.target.size c.args.target.start n) c.len.ensures) c.in_ok-fill_front.ensures.spared strict)

pub unreachable-requires : goal.unreachable-requires
unreachable-requires c =
    let answer = rw c.in-Lacking.is at c.in_ok-fill_front.ensures.answer in
    holes_fit c.args.mode c.args.k.now c.fill_front.new.k c.args.staging.now c.args.files.now c.args.who c.args.target c.args.bytes.now (plan_of c.args.mode c.args.target.size c.args.target.start (length c.args.bytes.now)).in_place c.in-Lacking.need c.in-Lacking.room c.the_first_holes_find_their_blocks.ensures c.requires.goes.0
    c.requires.room.ends
    (places_within c.args.mode c.args.files.now c.args.target.ino c.args.target.size c.args.target.start (length c.args.bytes.now) c.requires.mode c.requires.target.some c.requires.target.most c.requires.target.fits c.requires.target.size)
    (c.if-is_fresh.ensures.0 refl)
    (subst (λ (o : Option (ℕ × ℕ)). LacksFor c.args.k.now c.fill_front.new.k c.args.staging.now c.args.files.now c.args.target.ino o c.in-Lacking.need c.in-Lacking.room) (ap (λ (p : WritePlan). p.in_place) (c.plan_write-plan.ensures ∙ ap (λ (n : ℕ). plan_of c.args.mode c.args.target.size c.args.target.start n) c.len.ensures)) answer)

pub returns-else-is_fresh-clause-keeps : goal.returns-else-is_fresh-clause-keeps
returns-else-is_fresh-clause-keeps c = λ on.
    let answer = rw c.in-Lacking.is at c.in_ok-fill_front.ensures.answer in
    lacks_maps c.args.k.now c.fill_front.new.k c.args.staging.now c.args.files.now c.args.target.ino (filled_in c.args.mode c.args.target.ino) c.plan_write-plan.result.in_place c.in-Lacking.need c.in-Lacking.room answer

pub returns-else-is_fresh-clause-gone : goal.returns-else-is_fresh-clause-gone
returns-else-is_fresh-clause-gone c =
    let answer = rw c.in-Lacking.is at c.in_ok-fill_front.ensures.answer in
    inl (
      subst (λ (o : Option (ℕ × ℕ)). LacksFor c.args.k.now c.fill_front.new.k c.args.staging.now c.args.files.now c.args.target.ino o c.in-Lacking.need c.in-Lacking.room) (ap (λ (p : WritePlan). p.in_place) (c.plan_write-plan.ensures ∙ ap (λ (n : ℕ). plan_of c.args.mode c.args.target.size c.args.target.start n) c.len.ensures)) answer,
      late_of c.args.staging.now c.args.staging.now refl c.requires.bare (λ fresh. (let never : false ≡ true = c.if-is_fresh.ensures.1 fresh in cc)),
      refl,
      refl,
    )

-- ---- they are

pub begin_filled-requires-clause-goes : goal.begin_filled-requires-clause-goes
begin_filled-requires-clause-goes c =
    let answer = rw c.in-Filled.is at c.in_ok-fill_front.ensures.answer in
    goes_then c.args.mode c.args.k.now c.fill_front.new.k c.args.staging.now c.args.staging.now c.args.files.now c.args.files.now c.args.who c.args.target c.args.bytes.now c.requires.goes.0
    (filled_on c.args.mode c.args.k.now c.fill_front.new.k c.args.staging.now c.args.files.now c.args.who c.args.target c.args.bytes.now c.plan_write-plan.result.in_place answer.0 c.requires.goes.0)

pub begin_filled-requires-clause-room : goal.begin_filled-requires-clause-room
begin_filled-requires-clause-room c =
    let answer = rw c.in-Filled.is at c.in_ok-fill_front.ensures.answer in
    room_on c.args.mode c.args.k.now c.fill_front.new.k c.args.staging.now c.args.files.now c.args.who c.args.target c.args.bytes.now c.plan_write-plan.result.in_place answer.0 c.requires.room

pub begin_filled-requires-clause-present : goal.begin_filled-requires-clause-present
begin_filled-requires-clause-present c =
    let answer = rw c.in-Filled.is at c.in_ok-fill_front.ensures.answer in
    are_present c.args.k.now c.fill_front.new.k c.args.staging.now c.args.files.now c.args.target.ino (plan_of c.args.mode c.args.target.size c.args.target.start (length c.args.bytes.now)).in_place
    (subst (FillsFor c.args.k.now c.fill_front.new.k c.args.staging.now c.args.files.now c.args.target.ino) (ap (λ (p : WritePlan). p.in_place) (c.plan_write-plan.ensures ∙ ap (λ (n : ℕ). plan_of c.args.mode c.args.target.size c.args.target.start n) c.len.ensures)) answer.0)

pub returns-in-Filled-clause-steps_strict : goal.returns-in-Filled-clause-steps_strict
returns-in-Filled-clause-steps_strict c = λ strict.
    subst (λ (p : Supply). Steps 65536 p c.begin_filled.new.power)
    (strict_spared c.args.mode c.args.target.size c.args.target.start (length c.args.bytes.now) c.plan_write-plan.result c.args.power.now c.fill_front.new.power c.requires.target.some (c.plan_write-plan.ensures ∙ ap (λ (n : ℕ). plan_of c.args.mode c.args.target.size c.args.target.start n) c.len.ensures) c.in_ok-fill_front.ensures.spared strict) c.begin_filled.ensures.steps

pub returns-in-Filled-clause-took : goal.returns-in-Filled-clause-took
returns-in-Filled-clause-took c written given some =
    let filled = c.in_ok-fill_front.ensures.steps in
    let more = c.begin_filled.ensures.took written given (filled.given ∙ some) in
    omega (arith, more, filled.later)

pub returns-in-Filled-clause-keeps : goal.returns-in-Filled-clause-keeps
returns-in-Filled-clause-keeps c = λ on.
    let answer = rw c.in-Filled.is at c.in_ok-fill_front.ensures.answer in
    maps_then c.args.k.now.volume c.fill_front.new.k.volume c.begin_filled.new.k.volume c.args.files.now c.args.files.now c.begin_filled.new.files (filled_in c.args.mode c.args.target.ino)
    (filled_maps c.args.k.now c.fill_front.new.k c.args.staging.now c.args.files.now c.args.target.ino c.args.mode c.plan_write-plan.result.in_place
    (λ strict. (ap (λ (p : WritePlan). p.in_place) (c.plan_write-plan.ensures ∙ ap (λ (n : ℕ). plan_of c.args.mode c.args.target.size c.args.target.start n) c.len.ensures)) ∙ (ap (λ (m : Mode). (plan_of m c.args.target.size c.args.target.start (length c.args.bytes.now)).in_place) strict ∙ strict_places_none c.args.target.size c.args.target.start (length c.args.bytes.now) c.requires.target.some)) answer.0)
    (c.begin_filled.ensures.keeps on)

pub returns-in-Filled-clause-gone : goal.returns-in-Filled-clause-gone
returns-in-Filled-clause-gone c =
    let answer = rw c.in-Filled.is at c.in_ok-fill_front.ensures.answer in
    inr (record {
      enough = subst (λ (o : Option (ℕ × ℕ)). (need left : ℕ) → ¬ LacksFor c.args.k.now c.args.k.now c.args.staging.now c.args.files.now c.args.target.ino o need left) (ap (λ (p : WritePlan). p.in_place) (c.plan_write-plan.ensures ∙ ap (λ (n : ℕ). plan_of c.args.mode c.args.target.size c.args.target.start n) c.len.ensures)) answer.1;
      middle = c.fill_front.new.k;
      filled = subst (FillsFor c.args.k.now c.fill_front.new.k c.args.staging.now c.args.files.now c.args.target.ino) (ap (λ (p : WritePlan). p.in_place) (c.plan_write-plan.ensures ∙ ap (λ (n : ℕ). plan_of c.args.mode c.args.target.size c.args.target.start n) c.len.ensures)) answer.0;
      below = c.begin_filled.ensures.keeps;
      gone = c.begin_filled.ensures.gone;
    })

pub returns-in_err-fill_front-clause-took : goal.returns-in_err-fill_front-clause-took
returns-in_err-fill_front-clause-took c written = (let p = err_from_is_err_and c.from_residual.result c.from_residual.ensures.1 in absurd (no_memory p.0 (sym p.1 ∙ written)))

pub returns-in-PowerLost-clause-took : goal.returns-in-PowerLost-clause-took
returns-in-PowerLost-clause-took c written = cc

pub returns-else-is_fresh-clause-took : goal.returns-else-is_fresh-clause-took
returns-else-is_fresh-clause-took c written = cc
