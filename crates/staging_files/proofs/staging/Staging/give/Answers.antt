use Rattle.std.proofs.Common.{◌-◌, ◌∷◌, ◌++◌, [], Err, ap, sym, subst, ◌∙◌, refl}
use Rattle.std.specs.Prelude.{slice_set}
use Rattle.std.proofs.lemmas.Bool.{both_ways}
use Rattle.staging_files.specs.Keeps.{IsKeptEmpty, IsStaged, Staged}
use Rattle.staging_files.specs.Reserves.{IsGiveAnswer, IsReservePaid, run_at}
use Rattle.staging_files.proofs.GiveUpLaws.{staging-file}
use Rattle.staging_files.proofs.ReserveLaws.{give-stopped, give-stopped-paid, no-steps}
use Rattle.staging_files.proofs.StagedLaws.{staged-given}
use Rattle.staging_files.proofs.staging.Staging.give.Goals as goal

pub invariant_of-self : goal.invariant_of-self
invariant_of-self c = subst (λ xs. IsStaged (record { out = xs; given = c.self.inside.given })) (sym c.reserve.ensures.items) c.self.invariant

pub returns-then-is_err-clause-steps : goal.returns-then-is_err-clause-steps
returns-then-is_err-clause-steps c = no-steps 32768 c.args.power.now

pub returns-then-is_err-clause-paid : goal.returns-then-is_err-clause-paid
returns-then-is_err-clause-paid c = (refl, c.requires.power)

pub returns-then-is_err-clause-answer : goal.returns-then-is_err-clause-answer
returns-then-is_err-clause-answer c = record {
  staging = ap (λ xs. record { out = xs; given = c.self.inside.given }) c.reserve.ensures.items ∙ c.self.view_is;
  volume = refl;
}

pub preallocate-requires-clause-awake : goal.preallocate-requires-clause-awake
preallocate-requires-clause-awake c lost = absurd (both_ways c.args.k.now.lost c.requires.on lost)

pub preallocate-requires-clause-staging : goal.preallocate-requires-clause-staging
preallocate-requires-clause-staging c on = staging-file c.args.k.now.volume c.args.staging c.requires.order.whole c.requires.staging

pub preallocate-requires-clause-bare : goal.preallocate-requires-clause-bare
preallocate-requires-clause-bare c on = c.requires.bare

pub preallocate-requires-clause-room : goal.preallocate-requires-clause-room
preallocate-requires-clause-room c on = c.requires.room

pub run_at-run-requires : goal.run_at-run-requires
run_at-run-requires c = staging-file c.preallocate.new.self.volume c.args.staging (c.in-Ok.ensures.answer c.requires.unbatched).2.order.whole c.requires.staging

pub invariant_of-self-in-Ok : goal.invariant_of-self-in-Ok
invariant_of-self-in-Ok c =
    let s = c.self.inside in
    subst (λ xs. IsStaged (record { out = xs; given = slice_set s.given (c.args.staging - 1) c.args.share }))
    (sym (c.push_reserved.ensures.items ∙ (λ i. c.reserve.ensures.items i ++ (c.run_at-run.ensures i ∷ []))))
    (staged-given (record { out = s.out.items; given = s.given }) (run_at c.preallocate.new.self c.args.count c.args.staging 0) c.args.share c.self.invariant c.requires.staging
    c.requires.some refl c.requires.fits c.requires.most (subst (λ v. IsKeptEmpty v c.args.staging) (sym c.self.view_is) c.requires.empty))

pub returns-in-Ok-clause-answer : goal.returns-in-Ok-clause-answer
returns-in-Ok-clause-answer c = (
  c.in-Ok.ensures.answer c.requires.unbatched,
  c.run_at-run.ensures,
  (λ i. record {
    out = (c.push_reserved.ensures.items ∙ ap (λ xs. xs ++ (c.run_at-run.result ∷ [])) (c.reserve.ensures.items ∙ ap (λ v. v.out) c.self.view_is)) i;
    given = slice_set (ap (λ v. v.given) c.self.view_is i) (c.args.staging - 1) c.args.share;
  }),
)

pub invariant_of-self-in-Err : goal.invariant_of-self-in-Err
invariant_of-self-in-Err c = subst (λ xs. IsStaged (record { out = xs; given = c.self.inside.given })) (sym c.reserve.ensures.items) c.self.invariant

pub returns-in-Err-clause-paid : goal.returns-in-Err-clause-paid
returns-in-Err-clause-paid c =
    subst (λ f. IsReservePaid c.args.power.now c.preallocate.new.power (Err f)) (sym c.fault_of.ensures)
    (give-stopped-paid c.args.staging c.args.share c.args.k.now c.preallocate.new.self c.args.power.now c.preallocate.new.power c.in-Err.fault (c.in-Err.ensures.answer c.requires.unbatched) (c.in-Err.ensures.paid c.requires.unbatched))

pub returns-in-Err-clause-answer : goal.returns-in-Err-clause-answer
returns-in-Err-clause-answer c =
    let t : Staged = record { out = c.reserve.new.self.items; given = c.self.inside.given } in
    subst (λ f. IsGiveAnswer c.args.staging c.args.count c.args.share c.args.self.now c.args.k.now t c.preallocate.new.self (Err f)) (sym c.fault_of.ensures)
    (give-stopped c.args.staging c.args.count c.args.share c.args.self.now t c.args.k.now c.preallocate.new.self c.in-Err.fault
    (ap (λ xs. record { out = xs; given = c.self.inside.given }) c.reserve.ensures.items ∙ c.self.view_is) (c.in-Err.ensures.answer c.requires.unbatched))
