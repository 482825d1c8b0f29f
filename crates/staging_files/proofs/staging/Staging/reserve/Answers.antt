use Rattle.std.proofs.Common.{◌≡◌, ◌≤◌, ◌+◌, false, sym, subst, ◌∙◌, refl, inl}
use Rattle.k_split.specs.layout_model.Places.{reserve}
use Rattle.k_split.specs.MapChanges.{free_blocks_in}
use Rattle.staging_files.specs.Keeps.{Agrees, AreFreeSingle, IsStaging}
use Rattle.staging_files.specs.Reserves.{IsFirstWay, IsFreeRun, IsGiveAnswer, IsSecondWay, run_at, share}
use Rattle.staging_files.proofs.AgreeLaws.{agrees-taken, run-single-taken, single-taken, there-taken}
use Rattle.staging_files.proofs.GiveUpLaws.{staging-file}
use Rattle.staging_files.proofs.ReserveLaws.{given-agrees, given-answer, given-leaves, given-single, given-there, no-steps}
use Rattle.staging_files.proofs.RoomLaws.{share-fits}
use Rattle.staging_files.proofs.staging.Staging.reserve.Goals as goal

pub returns-then-is_lost-clause-steps : goal.returns-then-is_lost-clause-steps
returns-then-is_lost-clause-steps c = no-steps 32768 c.args.power.now

pub returns-then-is_lost-clause-answer : goal.returns-then-is_lost-clause-answer
returns-then-is_lost-clause-answer c = inl (record { staging = refl; volume = refl })

pub run_at-run-requires : goal.run_at-run-requires
run_at-run-requires c =
    let on : c.args.k.now.lost ≡ false = sym c.is_lost.ensures.lost ∙ c.if-is_lost.false in
    staging-file c.args.k.now.volume c.in-Some.place.staging (c.is_lost.ensures.order on).whole c.in-Some.ensures.found.place.staging

pub take-requires-clause-staging : goal.take-requires-clause-staging
take-requires-clause-staging c = subst (λ x. IsStaging x.staging) (sym c.run_at-run.ensures) c.in-Some.ensures.found.place.staging

pub take-requires-clause-some : goal.take-requires-clause-some
take-requires-clause-some c = subst (λ x. 1 ≤ x.count) (sym c.run_at-run.ensures) c.requires.some

pub take-requires-clause-free : goal.take-requires-clause-free
take-requires-clause-free c = subst (λ x. IsFreeRun c.args.self.now x.count x.staging x.block) (sym c.run_at-run.ensures) c.in-Some.ensures.found.place.here

pub returns-in-Ok-clause-steps : goal.returns-in-Ok-clause-steps
returns-in-Ok-clause-steps c = no-steps 32768 c.args.power.now

pub returns-in-Ok-clause-answer : goal.returns-in-Ok-clause-answer
returns-in-Ok-clause-answer c =
    inl (record {
      way = subst (λ x. IsFirstWay c.args.self.now c.args.k.now c.args.count x.staging x.block) (sym c.run_at-run.ensures) c.in-Some.ensures.found;
      run_is = subst (λ x. x ≡ run_at c.args.k.now c.args.count x.staging x.block) (sym c.run_at-run.ensures) refl;
      staged = c.in-Ok.ensures.ok;
      same = refl;
    })

pub returns-in-Ok-clause-agrees : goal.returns-in-Ok-clause-agrees
returns-in-Ok-clause-agrees c =
    let on : c.args.k.now.lost ≡ false = sym c.is_lost.ensures.lost ∙ c.if-is_lost.false in
    subst (λ t. Agrees t c.args.k.now) (sym c.in-Ok.ensures.ok) (agrees-taken c.args.self.now c.args.k.now c.run_at-run.result (c.requires.agrees on))

pub returns-in-Ok-clause-there : goal.returns-in-Ok-clause-there
returns-in-Ok-clause-there c =
    let on : c.args.k.now.lost ≡ false = sym c.is_lost.ensures.lost ∙ c.if-is_lost.false in
    there-taken c.args.self.now c.args.k.now c.run_at-run.result (c.requires.agrees on)
    (subst (λ x. IsStaging x.staging) (sym c.run_at-run.ensures) c.in-Some.ensures.found.place.staging)
    (subst (λ x. IsFreeRun c.args.self.now x.count x.staging x.block) (sym c.run_at-run.ensures) c.in-Some.ensures.found.place.here)

pub returns-in-Ok-clause-leaves : goal.returns-in-Ok-clause-leaves
returns-in-Ok-clause-leaves c unbatched = c.in-Some.ensures.found.room

pub returns-in-Ok-clause-single : goal.returns-in-Ok-clause-single
returns-in-Ok-clause-single c single = (
  run-single-taken c.args.self.now c.args.k.now c.run_at-run.result single
      (subst (λ x. IsStaging x.staging) (sym c.run_at-run.ensures) c.in-Some.ensures.found.place.staging)
      (subst (λ x. IsFreeRun c.args.self.now x.count x.staging x.block) (sym c.run_at-run.ensures) c.in-Some.ensures.found.place.here),
  subst (λ t. AreFreeSingle t c.args.k.now) (sym c.in-Ok.ensures.ok) (single-taken c.args.self.now c.args.k.now c.run_at-run.result single),
)

pub returns-in-Err-clause-steps : goal.returns-in-Err-clause-steps
returns-in-Err-clause-steps c = no-steps 32768 c.args.power.now

pub returns-in-Err-clause-answer : goal.returns-in-Err-clause-answer
returns-in-Err-clause-answer c = record { staging = c.in-Err.ensures.err; volume = refl }

pub returns-in-None-clause-steps : goal.returns-in-None-clause-steps
returns-in-None-clause-steps c = no-steps 32768 c.args.power.now

pub returns-in-None-clause-answer : goal.returns-in-None-clause-answer
returns-in-None-clause-answer c = (
  record { no_first = c.in_default.ensures.none; no_second = c.in-None.ensures.none; need_is = c.need.ensures; room_is = c.room.ensures },
  record { staging = refl; volume = refl },
)

pub returns-in-None-clause-agrees : goal.returns-in-None-clause-agrees
returns-in-None-clause-agrees c = c.requires.agrees (sym c.is_lost.ensures.lost ∙ c.if-is_lost.false)

pub give-requires-clause-on : goal.give-requires-clause-on
give-requires-clause-on c = sym c.is_lost.ensures.lost ∙ c.if-is_lost.false

pub give-requires-clause-order : goal.give-requires-clause-order
give-requires-clause-order c = c.is_lost.ensures.order (sym c.is_lost.ensures.lost ∙ c.if-is_lost.false)

pub give-requires-clause-staging : goal.give-requires-clause-staging
give-requires-clause-staging c = c.in-Some-second_way.ensures.found.staging

pub give-requires-clause-empty : goal.give-requires-clause-empty
give-requires-clause-empty c = c.in-Some-second_way.ensures.found.empty

pub give-requires-clause-bare : goal.give-requires-clause-bare
give-requires-clause-bare c =
    let on : c.args.k.now.lost ≡ false = sym c.is_lost.ensures.lost ∙ c.if-is_lost.false in
    (c.requires.agrees on).empty c.in-Some-second_way.staging c.in-Some-second_way.ensures.found.staging c.in-Some-second_way.ensures.found.empty

pub give-requires-clause-fits : goal.give-requires-clause-fits
give-requires-clause-fits c =
    subst (λ n. c.args.count ≤ n) (sym c.share-share.ensures) (share-fits c.args.self.now c.args.k.now c.args.count c.requires.most c.in-Some-second_way.ensures.room).0

pub give-requires-clause-most : goal.give-requires-clause-most
give-requires-clause-most c =
    subst (λ n. n ≤ 64) (sym c.share-share.ensures) (share-fits c.args.self.now c.args.k.now c.args.count c.requires.most c.in-Some-second_way.ensures.room).1

pub give-requires-clause-room : goal.give-requires-clause-room
give-requires-clause-room c =
    subst (λ n. n + reserve c.args.k.now.volume.geometry ≤ free_blocks_in c.args.k.now + 1) (sym c.share-share.ensures)
    (share-fits c.args.self.now c.args.k.now c.args.count c.requires.most c.in-Some-second_way.ensures.room).2

pub returns-in-Some-second_way-clause-steps : goal.returns-in-Some-second_way-clause-steps
returns-in-Some-second_way-clause-steps c = c.give.ensures.steps

pub returns-in-Some-second_way-clause-paid : goal.returns-in-Some-second_way-clause-paid
returns-in-Some-second_way-clause-paid c = c.give.ensures.paid

pub returns-in-Some-second_way-clause-answer : goal.returns-in-Some-second_way-clause-answer
returns-in-Some-second_way-clause-answer c =
    let on : c.args.k.now.lost ≡ false = sym c.is_lost.ensures.lost ∙ c.if-is_lost.false in
    let x = c.in-Some-second_way.staging in
    let way : IsSecondWay c.args.self.now c.args.k.now c.args.count x =
    record { no_first = c.in_default.ensures.none; room = c.in-Some-second_way.ensures.room; place = c.in-Some-second_way.ensures.found }
    in
    let gave : IsGiveAnswer x c.args.count (share c.args.self.now c.args.k.now c.args.count) c.args.self.now c.args.k.now c.give.new.self c.give.new.k c.give.result =
    subst (λ n. IsGiveAnswer x c.args.count n c.args.self.now c.args.k.now c.give.new.self c.give.new.k c.give.result) c.share-share.ensures c.give.ensures.answer
    in
    given-answer x c.args.count c.args.self.now c.args.k.now c.give.new.k (c.is_lost.ensures.order on) c.in_default.ensures.keeps (c.requires.agrees on) c.requires.some c.requires.most
    way c.give.new.self c.give.result gave

pub returns-in-Some-second_way-clause-agrees : goal.returns-in-Some-second_way-clause-agrees
returns-in-Some-second_way-clause-agrees c =
    let on : c.args.k.now.lost ≡ false = sym c.is_lost.ensures.lost ∙ c.if-is_lost.false in
    let x = c.in-Some-second_way.staging in
    let way : IsSecondWay c.args.self.now c.args.k.now c.args.count x =
    record { no_first = c.in_default.ensures.none; room = c.in-Some-second_way.ensures.room; place = c.in-Some-second_way.ensures.found }
    in
    let gave : IsGiveAnswer x c.args.count (share c.args.self.now c.args.k.now c.args.count) c.args.self.now c.args.k.now c.give.new.self c.give.new.k c.give.result =
    subst (λ n. IsGiveAnswer x c.args.count n c.args.self.now c.args.k.now c.give.new.self c.give.new.k c.give.result) c.share-share.ensures c.give.ensures.answer
    in
    given-agrees x c.args.count c.args.self.now c.args.k.now c.give.new.k (c.is_lost.ensures.order on) c.in_default.ensures.keeps (c.requires.agrees on) c.requires.some c.requires.most
    way c.give.new.self c.give.result gave

pub returns-in-Some-second_way-clause-there : goal.returns-in-Some-second_way-clause-there
returns-in-Some-second_way-clause-there c =
    let on : c.args.k.now.lost ≡ false = sym c.is_lost.ensures.lost ∙ c.if-is_lost.false in
    let x = c.in-Some-second_way.staging in
    let way : IsSecondWay c.args.self.now c.args.k.now c.args.count x =
    record { no_first = c.in_default.ensures.none; room = c.in-Some-second_way.ensures.room; place = c.in-Some-second_way.ensures.found }
    in
    let gave : IsGiveAnswer x c.args.count (share c.args.self.now c.args.k.now c.args.count) c.args.self.now c.args.k.now c.give.new.self c.give.new.k c.give.result =
    subst (λ n. IsGiveAnswer x c.args.count n c.args.self.now c.args.k.now c.give.new.self c.give.new.k c.give.result) c.share-share.ensures c.give.ensures.answer
    in
    given-there x c.args.count c.args.self.now c.args.k.now c.give.new.k (c.is_lost.ensures.order on) c.in_default.ensures.keeps (c.requires.agrees on) c.requires.some c.requires.most
    way c.give.new.self c.give.result gave

pub returns-in-Some-second_way-clause-leaves : goal.returns-in-Some-second_way-clause-leaves
returns-in-Some-second_way-clause-leaves c =
    let on : c.args.k.now.lost ≡ false = sym c.is_lost.ensures.lost ∙ c.if-is_lost.false in
    let x = c.in-Some-second_way.staging in
    let way : IsSecondWay c.args.self.now c.args.k.now c.args.count x =
    record { no_first = c.in_default.ensures.none; room = c.in-Some-second_way.ensures.room; place = c.in-Some-second_way.ensures.found }
    in
    let gave : IsGiveAnswer x c.args.count (share c.args.self.now c.args.k.now c.args.count) c.args.self.now c.args.k.now c.give.new.self c.give.new.k c.give.result =
    subst (λ n. IsGiveAnswer x c.args.count n c.args.self.now c.args.k.now c.give.new.self c.give.new.k c.give.result) c.share-share.ensures c.give.ensures.answer
    in
    given-leaves x c.args.count c.args.self.now c.args.k.now c.give.new.k (c.is_lost.ensures.order on) c.in_default.ensures.keeps (c.requires.agrees on) c.requires.some c.requires.most
    way c.give.new.self c.give.result gave

pub returns-in-Some-second_way-clause-single : goal.returns-in-Some-second_way-clause-single
returns-in-Some-second_way-clause-single c =
    let on : c.args.k.now.lost ≡ false = sym c.is_lost.ensures.lost ∙ c.if-is_lost.false in
    let x = c.in-Some-second_way.staging in
    let way : IsSecondWay c.args.self.now c.args.k.now c.args.count x =
    record { no_first = c.in_default.ensures.none; room = c.in-Some-second_way.ensures.room; place = c.in-Some-second_way.ensures.found }
    in
    let gave : IsGiveAnswer x c.args.count (share c.args.self.now c.args.k.now c.args.count) c.args.self.now c.args.k.now c.give.new.self c.give.new.k c.give.result =
    subst (λ n. IsGiveAnswer x c.args.count n c.args.self.now c.args.k.now c.give.new.self c.give.new.k c.give.result) c.share-share.ensures c.give.ensures.answer
    in
    given-single x c.args.count c.args.self.now c.args.k.now c.give.new.k (c.is_lost.ensures.order on) c.in_default.ensures.keeps (c.requires.agrees on) c.requires.some c.requires.most
    way c.give.new.self c.give.result gave

pub give-requires-clause-unbatched : goal.give-requires-clause-unbatched
give-requires-clause-unbatched c = c.requires.unbatched (sym c.is_lost.ensures.lost ∙ c.if-is_lost.false)
