use Rattle.std.proofs.Common.{◌≡◌, ◌+◌, ◌-◌, ◌*◌, suc, false, Err, Ok, sym, subst, ◌∙◌, refl, inl, arith}
use Rattle.std.proofs.lemmas.Bool.{both_ways}
use Rattle.k_split.specs.pm_model.Powers.{Steps}
use Rattle.k_split.specs.pm_model.PowerLaws.{Steps-then}
use Rattle.k_split.specs.MapChanges.{IsGiveUpAnswer}
use Rattle.staging_files.specs.GivesUp.{AgreesAfterAll, AreGivenUp, IsGiveUpAllPaid, IsGivenUpEach, nothing_staged}
use Rattle.staging_files.proofs.GiveUpLaws.{agrees-nothing, AreBare, fewer-steps, HasGivenUp, lost-off, next-given, none-bare, staging-file, stopped-agrees, stopped-answer, stopped-paid}
use Rattle.staging_files.proofs.ReserveLaws.{no-steps}
use Rattle.staging_files.proofs.giving.give_up_each.Goals as goal

pub returns-then-is_lost-clause-steps : goal.returns-then-is_lost-clause-steps
returns-then-is_lost-clause-steps c = no-steps 131072 c.args.power.now

pub returns-then-is_lost-clause-paid : goal.returns-then-is_lost-clause-paid
returns-then-is_lost-clause-paid c = c.requires.awake (sym c.is_lost.ensures.lost ∙ c.if-is_lost.true)

pub returns-then-is_lost-clause-answer : goal.returns-then-is_lost-clause-answer
returns-then-is_lost-clause-answer c = record {
  done = 0;
  few = omega arith;
  middle = c.args.k.now;
  gave = refl;
  cut = inl (lost-off c.args.k.now (sym c.is_lost.ensures.lost ∙ c.if-is_lost.true));
}

pub loop-staging-init : goal.loop-staging-init
loop-staging-init c =
    let on : c.args.k.now.lost ≡ false = sym c.is_lost.ensures.lost ∙ c.if-is_lost.false in (
      record { gave = refl; on = on; unbatched = c.requires.unbatched on; order = c.is_lost.ensures.order on; single = c.requires.single on; bare = none-bare c.args.k.now },
      no-steps 0 c.args.power.now,
      λ two. absurd (omega (arith, two)),
    )

pub give_up-requires-clause-awake : goal.give_up-requires-clause-awake
give_up-requires-clause-awake c lost = absurd (both_ways c.loop-staging.k.lost c.loop-staging.invariant.0.on lost)

pub give_up-requires-clause-staging : goal.give_up-requires-clause-staging
give_up-requires-clause-staging c on =
    staging-file c.loop-staging.k.volume c.loop-staging.staging c.loop-staging.invariant.0.order.whole (record { least = c.loop-staging.auto.staging; most = omega arith })

pub give_up-requires-clause-home : goal.give_up-requires-clause-home
give_up-requires-clause-home c on = c.loop-staging.invariant.0.single c.loop-staging.staging (record { least = c.loop-staging.auto.staging; most = omega arith })

pub returns-in-Err-clause-steps : goal.returns-in-Err-clause-steps
returns-in-Err-clause-steps c =
    fewer-steps (32768 * (c.loop-staging.staging - 1) + 32768) 131072 c.args.power.now c.give_up.new.power (omega arith)
    (Steps-then (32768 * (c.loop-staging.staging - 1)) 32768 c.args.power.now c.loop-staging.power c.give_up.new.power c.loop-staging.invariant.1 (c.in-Err.ensures.steps c.loop-staging.invariant.0.unbatched))

pub returns-in-Err-clause-paid : goal.returns-in-Err-clause-paid
returns-in-Err-clause-paid c =
    subst (IsGiveUpAllPaid c.give_up.new.power) (sym c.stopped_by.ensures)
    (stopped-paid c.loop-staging.staging c.loop-staging.k c.give_up.new.self c.loop-staging.power c.give_up.new.power c.in-Err.fault (c.in-Err.ensures.answer c.loop-staging.invariant.0.unbatched) (c.in-Err.ensures.paid c.loop-staging.invariant.0.unbatched))

pub returns-in-Err-clause-answer : goal.returns-in-Err-clause-answer
returns-in-Err-clause-answer c =
    let same : c.loop-staging.staging ≡ suc (c.loop-staging.staging - 1) = omega (arith, c.loop-staging.auto.staging) in
    subst (IsGivenUpEach c.args.k.now c.give_up.new.self) (sym c.stopped_by.ensures)
    (stopped-answer c.in-Err.fault (c.loop-staging.staging - 1) c.args.k.now c.loop-staging.k c.give_up.new.self (omega arith) c.loop-staging.invariant.0.gave
    (subst (λ n. IsGiveUpAnswer n c.loop-staging.k c.give_up.new.self (Err c.in-Err.fault)) same (c.in-Err.ensures.answer c.loop-staging.invariant.0.unbatched)))

pub loop-staging-preserved : goal.loop-staging-preserved
loop-staging-preserved c =
    let same : c.loop-staging.staging ≡ suc (c.loop-staging.staging - 1) = omega (arith, c.loop-staging.auto.staging) in
    let next : suc (c.loop-staging.staging - 1) ≡ c.loop-staging.staging + 1 - 1 = omega (arith, c.loop-staging.auto.staging) in
    let steps : 32768 * (c.loop-staging.staging - 1) + 32768 ≡ 32768 * (c.loop-staging.staging + 1 - 1) = omega (arith, c.loop-staging.auto.staging) in (
      subst (λ n. HasGivenUp n c.args.k.now c.give_up.new.self) next
          (next-given (c.loop-staging.staging - 1) c.args.k.now c.loop-staging.k c.give_up.new.self (omega arith) c.loop-staging.invariant.0
          (subst (λ n. IsGiveUpAnswer n c.loop-staging.k c.give_up.new.self (Ok tt)) same (c.in-Ok.ensures.answer c.loop-staging.invariant.0.unbatched))),
      subst (λ n. Steps n c.args.power.now c.give_up.new.power) steps
          (Steps-then (32768 * (c.loop-staging.staging - 1)) 32768 c.args.power.now c.loop-staging.power c.give_up.new.power c.loop-staging.invariant.1 (c.in-Ok.ensures.steps c.loop-staging.invariant.0.unbatched)),
      λ two. (c.in-Ok.ensures.paid c.loop-staging.invariant.0.unbatched).0,
    )

pub returns-clause-steps : goal.returns-clause-steps
returns-clause-steps c = fewer-steps (32768 * (c.loop-staging.staging - 1)) 131072 c.args.power.now c.loop-staging.power (omega arith) c.loop-staging.invariant.1

pub returns-clause-paid : goal.returns-clause-paid
returns-clause-paid c = c.loop-staging.invariant.2 (omega arith)

pub returns-clause-answer : goal.returns-clause-answer
returns-clause-answer c =
    let four : c.loop-staging.staging - 1 ≡ 4 = omega (arith, c.loop-staging.auto.staging-end (omega arith)) in
    subst (λ n. AreGivenUp n c.args.k.now c.loop-staging.k) four c.loop-staging.invariant.0.gave

pub returns-in-Err-clause-agrees : goal.returns-in-Err-clause-agrees
returns-in-Err-clause-agrees c = subst (AgreesAfterAll nothing_staged c.give_up.new.self) (sym c.stopped_by.ensures) (stopped-agrees c.in-Err.fault c.give_up.new.self)

pub returns-clause-agrees : goal.returns-clause-agrees
returns-clause-agrees c =
    let four : c.loop-staging.staging - 1 ≡ 4 = omega (arith, c.loop-staging.auto.staging-end (omega arith)) in
    agrees-nothing c.loop-staging.k (subst (λ n. AreBare n c.loop-staging.k) four c.loop-staging.invariant.0.bare)
