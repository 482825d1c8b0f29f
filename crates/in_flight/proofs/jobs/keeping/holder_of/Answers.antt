use Rattle.std.proofs.Common.{◌≡◌, ℕ, arith, sym, subst, ap, ◌∙◌, inl, inr}
use Rattle.std.specs.Prelude.{◌==◌, ◌&&◌, not, false, slice_get, Some}
use Rattle.open_files.specs.posix_tables.Open.{same_who}
use Rattle.std.proofs.lemmas.Bool.{cases_lt}
use Rattle.std.proofs.lemmas.Option.{slice_get_within}
use Rattle.open_files.specs.list_laws.Members.{In, slice_get-In}
use Rattle.live_model.specs.Standing.{JobOut}
use Rattle.in_flight.proofs.Taking.{at_index, held, not_held, there}
use Rattle.in_flight.proofs.jobs.keeping.holder_of.Goals as goal

pub returns-then-is_held : goal.returns-then-is_held
returns-then-is_held c =
    let parts = held c.job-item.result c.args.ino c.args.who (sym c.is_held.ensures ∙ c.if-is_held.true) in
    (c.job-item.result, subst (λ (p : JobOut). In p c.args.pending.now) (sym c.job-item.is) (there c.args.pending.now c.loop-job.job-index c.job-item.result (omega (arith, c.loop-job-test.true))), parts.0, sym (ap (λ (p : JobOut). p.who) c.job.view_is), parts.1)

pub loop-job-preserved : goal.loop-job-preserved
loop-job-preserved c i p below at file = elim (cases_lt i c.loop-job.job-index) [
  | inl before ↦ c.loop-job.invariant i p before at file
  | inr from ↦
      let index : i ≡ c.loop-job.job-index = omega (arith, below, from) in
      let item : c.job-item.result ≡ p = c.job-item.is ∙ at_index c.args.pending.now c.loop-job.job-index p c.job-item.result (subst (λ (n : ℕ). slice_get c.args.pending.now n ≡ Some p) index at) in
      not_held p c.args.ino c.args.who (subst (λ (q : JobOut). (not (same_who q.who c.args.who) && (q.draft.ino == c.args.ino)) ≡ false) item (sym c.is_held.ensures ∙ c.if-is_held.false)) file
]

pub returns : goal.returns
returns c p is =
    let at = slice_get-In c.args.pending.now p is in
    c.loop-job.invariant at.0 p (omega (arith, slice_get_within c.args.pending.now at.0 p at.1, c.loop-job-test.false)) at.1
