use Rattle.std.proofs.Common.{◌≡◌, ◌∙◌, ◌*◌, ◌-◌, ◌/◌, ℕ, List, Option, Some, None, drop, length, max, ap, arith, subst, sym}
use Rattle.data_route.specs.declared.writes.WritePlan.{WritePlan}
use Rattle.data_route.specs.Writes.{plan_of}
use Rattle.write_plan.specs.eof_laws.block_io.Overwrites.{blocks_reached}
use Rattle.write_plan.specs.image_model.Volume.{Volume}
use Rattle.write_plan.specs.k_split_model.View.{View}
use Rattle.write_begin.specs.Goes.{FitsTarget, Goes, HasRoom, IsGone, KeepsMaps, reached_run}
use Rattle.write_begin.specs.Rooms.{ArePresent}
use Rattle.write_begin.proofs.Maps.{same_maps}
use Rattle.write_begin.proofs.PartGoes.{behind, fits_part, goes_part, not_written, rest_long, room_part, staged_part, through_part}
use Rattle.write_begin.proofs.PartPlans.{all_placed, IsPart, part_is, reached_is}
use Rattle.write_begin.proofs.Spared.{line_there}
use Rattle.write_begin.proofs.Placing.{loses_target, may_place, places_target}
use Rattle.write_begin.proofs.begins.rooms.begin_filled.Goals as goal

-- ---- it stages nothing

pub plan_write-plan-requires-clause-file : goal.plan_write-plan-requires-clause-file
plan_write-plan-requires-clause-file c = omega (arith, c.size-size.ensures.size, c.size-size.ensures.small, c.requires.target.size)

pub size-size-requires : goal.size-size-requires
size-size-requires c = line_there c.args.mode c.args.k.now c.args.staging.now c.args.files.now c.args.who c.args.target c.args.bytes.now c.requires.goes

pub put_shared-requires-clause-can : goal.put_shared-requires-clause-can
put_shared-requires-clause-can c =
    let none : (plan_of c.args.mode c.args.target.size c.args.target.start (length c.args.bytes.now)).staged ≡ None = sym (ap (λ (p : WritePlan). p.staged) (c.plan_write-plan.ensures ∙ ap (λ (n : ℕ). plan_of c.args.mode c.args.target.size c.args.target.start n) c.len.ensures)) ∙ c.in-None.is in
    let all = all_placed c.args.mode c.args.target.size c.args.target.start (length c.args.bytes.now) c.requires.mode c.requires.target.some none in
    may_place c.args.mode c.args.k.now c.args.staging.now c.args.files.now c.args.who c.args.target c.args.bytes.now c.requires.goes c.requires.target all.below all.sync (subst (ArePresent c.args.k.now.volume c.args.files.now c.args.target.ino) all.placed c.requires.present)

pub returns-in-Done-clause-took : goal.returns-in-Done-clause-took
returns-in-Done-clause-took c written = (let some = c.requires.target.some in c.in-Done.ensures.took c.in-Done.ensures.paid (omega (arith, some)))

pub returns-in-Done-clause-keeps : goal.returns-in-Done-clause-keeps
returns-in-Done-clause-keeps c = λ on.
    subst (λ (w : Volume). KeepsMaps c.args.k.now.volume w c.args.files.now c.args.files.now None) (sym (ap (λ (y : View). y.volume) c.in-Done.ensures.answer.same)) (same_maps c.args.k.now.volume c.args.files.now)

pub returns-in-Done-clause-gone : goal.returns-in-Done-clause-gone
returns-in-Done-clause-gone c =
    let none : (plan_of c.args.mode c.args.target.size c.args.target.start (length c.args.bytes.now)).staged ≡ None = sym (ap (λ (p : WritePlan). p.staged) (c.plan_write-plan.ensures ∙ ap (λ (n : ℕ). plan_of c.args.mode c.args.target.size c.args.target.start n) c.len.ensures)) ∙ c.in-None.is in
    let all = all_placed c.args.mode c.args.target.size c.args.target.start (length c.args.bytes.now) c.requires.mode c.requires.target.some none in
    places_target c.args.mode c.args.k.now c.put_shared.new.k c.args.staging.now c.args.files.now c.args.who c.args.target c.args.bytes.now all.sync c.requires.target all.below c.in-Done.ensures.answer (plan_of c.args.mode c.args.target.size c.args.target.start (length c.args.bytes.now)).staged none

pub returns-in-PowerLost-clause-gone : goal.returns-in-PowerLost-clause-gone
returns-in-PowerLost-clause-gone c =
    let none : (plan_of c.args.mode c.args.target.size c.args.target.start (length c.args.bytes.now)).staged ≡ None = sym (ap (λ (p : WritePlan). p.staged) (c.plan_write-plan.ensures ∙ ap (λ (n : ℕ). plan_of c.args.mode c.args.target.size c.args.target.start n) c.len.ensures)) ∙ c.in-None.is in
    let all = all_placed c.args.mode c.args.target.size c.args.target.start (length c.args.bytes.now) c.requires.mode c.requires.target.some none in
    loses_target c.args.mode c.args.k.now c.put_shared.new.k c.args.staging.now c.args.files.now c.args.who c.args.target c.args.bytes.now all.sync c.requires.target all.below c.in-PowerLost.ensures.answer

-- ---- or a part

pub behind-requires : goal.behind-requires
behind-requires c =
    let plan : (plan_of c.args.mode c.args.target.size c.args.target.start (length c.args.bytes.now)).staged ≡ Some (c.in-Some.first, c.in-Some.field-0-1) = sym (ap (λ (p : WritePlan). p.staged) (c.plan_write-plan.ensures ∙ ap (λ (n : ℕ). plan_of c.args.mode c.args.target.size c.args.target.start n) c.len.ensures)) ∙ c.in-Some.is in
    let from_is : max c.args.target.start (4096 * c.in-Some.first) ≡ c.max-start.result = omega (arith, c.max-start.ensures, c.from.ensures, c.in-Some.first-is) in
    let part = subst (IsPart c.args.mode c.args.target.size c.args.target.start (length c.args.bytes.now)) from_is (part_is c.args.mode c.args.target.size c.args.target.start (length c.args.bytes.now) (c.in-Some.first, c.in-Some.field-0-1) c.requires.mode c.requires.target.some plan) in
    let low = part.behind in
    let within = part.within in
    omega (arith, low, within)

pub begin_staged-requires-clause-goes : goal.begin_staged-requires-clause-goes
begin_staged-requires-clause-goes c =
    let plan : (plan_of c.args.mode c.args.target.size c.args.target.start (length c.args.bytes.now)).staged ≡ Some (c.in-Some.first, c.in-Some.field-0-1) = sym (ap (λ (p : WritePlan). p.staged) (c.plan_write-plan.ensures ∙ ap (λ (n : ℕ). plan_of c.args.mode c.args.target.size c.args.target.start n) c.len.ensures)) ∙ c.in-Some.is in
    let from_is : max c.args.target.start (4096 * c.in-Some.first) ≡ c.max-start.result = omega (arith, c.max-start.ensures, c.from.ensures, c.in-Some.first-is) in
    let part = subst (IsPart c.args.mode c.args.target.size c.args.target.start (length c.args.bytes.now)) from_is (part_is c.args.mode c.args.target.size c.args.target.start (length c.args.bytes.now) (c.in-Some.first, c.in-Some.field-0-1) c.requires.mode c.requires.target.some plan) in
    subst (Goes c.args.mode c.args.k.now c.args.staging.now c.args.files.now c.args.who (behind c.args.mode c.args.k.now c.args.staging.now c.args.files.now c.args.who c.args.target c.args.bytes.now c.max-start.result c.requires.target part)) (sym c.in_ok-rest-in-Some.ensures) (goes_part c.args.mode c.args.k.now c.args.staging.now c.args.files.now c.args.who c.args.target c.args.bytes.now c.max-start.result c.requires.target part c.requires.present c.requires.goes)

pub begin_staged-requires-clause-target : goal.begin_staged-requires-clause-target
begin_staged-requires-clause-target c =
    let plan : (plan_of c.args.mode c.args.target.size c.args.target.start (length c.args.bytes.now)).staged ≡ Some (c.in-Some.first, c.in-Some.field-0-1) = sym (ap (λ (p : WritePlan). p.staged) (c.plan_write-plan.ensures ∙ ap (λ (n : ℕ). plan_of c.args.mode c.args.target.size c.args.target.start n) c.len.ensures)) ∙ c.in-Some.is in
    let from_is : max c.args.target.start (4096 * c.in-Some.first) ≡ c.max-start.result = omega (arith, c.max-start.ensures, c.from.ensures, c.in-Some.first-is) in
    let part = subst (IsPart c.args.mode c.args.target.size c.args.target.start (length c.args.bytes.now)) from_is (part_is c.args.mode c.args.target.size c.args.target.start (length c.args.bytes.now) (c.in-Some.first, c.in-Some.field-0-1) c.requires.mode c.requires.target.some plan) in
    subst (λ (bytes : List ℕ). FitsTarget c.args.files.now (behind c.args.mode c.args.k.now c.args.staging.now c.args.files.now c.args.who c.args.target c.args.bytes.now c.max-start.result c.requires.target part) (length bytes)) (sym c.in_ok-rest-in-Some.ensures) (fits_part c.args.mode c.args.k.now c.args.staging.now c.args.files.now c.args.who c.args.target c.args.bytes.now c.max-start.result c.requires.target part)

pub begin_staged-requires-clause-staged : goal.begin_staged-requires-clause-staged
begin_staged-requires-clause-staged c =
    let plan : (plan_of c.args.mode c.args.target.size c.args.target.start (length c.args.bytes.now)).staged ≡ Some (c.in-Some.first, c.in-Some.field-0-1) = sym (ap (λ (p : WritePlan). p.staged) (c.plan_write-plan.ensures ∙ ap (λ (n : ℕ). plan_of c.args.mode c.args.target.size c.args.target.start n) c.len.ensures)) ∙ c.in-Some.is in
    let from_is : max c.args.target.start (4096 * c.in-Some.first) ≡ c.max-start.result = omega (arith, c.max-start.ensures, c.from.ensures, c.in-Some.first-is) in
    let part = subst (IsPart c.args.mode c.args.target.size c.args.target.start (length c.args.bytes.now)) from_is (part_is c.args.mode c.args.target.size c.args.target.start (length c.args.bytes.now) (c.in-Some.first, c.in-Some.field-0-1) c.requires.mode c.requires.target.some plan) in
    subst (λ (bytes : List ℕ). (plan_of c.args.mode c.args.target.size c.max-start.result (length bytes)).staged ≡ reached_run (behind c.args.mode c.args.k.now c.args.staging.now c.args.files.now c.args.who c.args.target c.args.bytes.now c.max-start.result c.requires.target part) (length bytes)) (sym c.in_ok-rest-in-Some.ensures) (staged_part c.args.mode c.args.k.now c.args.staging.now c.args.files.now c.args.who c.args.target c.args.bytes.now c.max-start.result c.requires.target part)

pub begin_staged-requires-clause-room : goal.begin_staged-requires-clause-room
begin_staged-requires-clause-room c =
    let plan : (plan_of c.args.mode c.args.target.size c.args.target.start (length c.args.bytes.now)).staged ≡ Some (c.in-Some.first, c.in-Some.field-0-1) = sym (ap (λ (p : WritePlan). p.staged) (c.plan_write-plan.ensures ∙ ap (λ (n : ℕ). plan_of c.args.mode c.args.target.size c.args.target.start n) c.len.ensures)) ∙ c.in-Some.is in
    let from_is : max c.args.target.start (4096 * c.in-Some.first) ≡ c.max-start.result = omega (arith, c.max-start.ensures, c.from.ensures, c.in-Some.first-is) in
    let part = subst (IsPart c.args.mode c.args.target.size c.args.target.start (length c.args.bytes.now)) from_is (part_is c.args.mode c.args.target.size c.args.target.start (length c.args.bytes.now) (c.in-Some.first, c.in-Some.field-0-1) c.requires.mode c.requires.target.some plan) in
    subst (λ (bytes : List ℕ). HasRoom c.args.mode c.args.k.now.volume c.args.files.now (behind c.args.mode c.args.k.now c.args.staging.now c.args.files.now c.args.who c.args.target c.args.bytes.now c.max-start.result c.requires.target part) (length bytes)) (sym c.in_ok-rest-in-Some.ensures) (room_part c.args.mode c.args.k.now c.args.staging.now c.args.files.now c.args.who c.args.target c.args.bytes.now c.max-start.result c.requires.target part c.args.k.now.volume c.requires.room)

pub returns-in_ok-rest-in-Some-clause-took : goal.returns-in_ok-rest-in-Some-clause-took
returns-in_ok-rest-in-Some-clause-took c written =
    absurd (not_written c.args.mode c.args.k.now c.begin_staged.new.k c.args.staging.now c.begin_staged.new.staging c.args.files.now c.begin_staged.new.files c.args.who _ c.in_ok-rest-in-Some.rest c.begin_staged.result c.begin_staged.ensures.gone written)

pub returns-in_ok-rest-in-Some-clause-gone : goal.returns-in_ok-rest-in-Some-clause-gone
returns-in_ok-rest-in-Some-clause-gone c =
    let plan : (plan_of c.args.mode c.args.target.size c.args.target.start (length c.args.bytes.now)).staged ≡ Some (c.in-Some.first, c.in-Some.field-0-1) = sym (ap (λ (p : WritePlan). p.staged) (c.plan_write-plan.ensures ∙ ap (λ (n : ℕ). plan_of c.args.mode c.args.target.size c.args.target.start n) c.len.ensures)) ∙ c.in-Some.is in
    let from_is : max c.args.target.start (4096 * c.in-Some.first) ≡ c.max-start.result = omega (arith, c.max-start.ensures, c.from.ensures, c.in-Some.first-is) in
    let part = subst (IsPart c.args.mode c.args.target.size c.args.target.start (length c.args.bytes.now)) from_is (part_is c.args.mode c.args.target.size c.args.target.start (length c.args.bytes.now) (c.in-Some.first, c.in-Some.field-0-1) c.requires.mode c.requires.target.some plan) in
    let reached = reached_is c.staged_blocks_are_those_of_the_part.ensures c.args.mode c.args.target (length c.args.bytes.now) (c.in-Some.first, c.in-Some.field-0-1) c.requires.target.some plan in
    let run_is : (plan_of c.args.mode c.args.target.size c.args.target.start (length c.args.bytes.now)).staged ≡ reached_run (behind c.args.mode c.args.k.now c.args.staging.now c.args.files.now c.args.who c.args.target c.args.bytes.now c.max-start.result c.requires.target part) (length (drop (c.max-start.result - c.args.target.start) c.args.bytes.now)) =
    reached
    ∙ (ap (λ n. (let run : Option (ℕ × ℕ) = Some (n / 4096, blocks_reached n (length c.args.bytes.now - (n - c.args.target.start))) in run)) from_is
    ∙ ap (λ n. (let run : Option (ℕ × ℕ) = Some (c.max-start.result / 4096, blocks_reached c.max-start.result n) in run)) (sym (rest_long c.args.mode c.args.k.now c.args.staging.now c.args.files.now c.args.who c.args.target c.args.bytes.now c.max-start.result c.requires.target part))) in
    through_part c.args.mode c.args.k.now c.args.staging.now c.args.files.now c.args.who c.args.target c.args.bytes.now c.max-start.result c.requires.target part c.requires.present c.begin_staged.new.k c.begin_staged.new.staging c.begin_staged.new.files (plan_of c.args.mode c.args.target.size c.args.target.start (length c.args.bytes.now)).staged run_is c.begin_staged.result
    (subst (λ (bytes : List ℕ). IsGone c.args.mode c.args.k.now c.begin_staged.new.k c.args.staging.now c.begin_staged.new.staging c.args.files.now c.begin_staged.new.files c.args.who (behind c.args.mode c.args.k.now c.args.staging.now c.args.files.now c.args.who c.args.target c.args.bytes.now c.max-start.result c.requires.target part) bytes (reached_run (behind c.args.mode c.args.k.now c.args.staging.now c.args.files.now c.args.who c.args.target c.args.bytes.now c.max-start.result c.requires.target part) (length bytes)) c.begin_staged.result) c.in_ok-rest-in-Some.ensures c.begin_staged.ensures.gone)

pub returns-in-PowerLost-clause-took : goal.returns-in-PowerLost-clause-took
returns-in-PowerLost-clause-took c written = cc
