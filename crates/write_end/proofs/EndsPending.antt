-- The job that ends among those that are out.
use Rattle.std.proofs.Common.{◌≡◌, ◌<◌, ◌++◌, ◌∷◌, [], ℕ, zero, suc, Bool, true, false, not, cond, List, length, refl, arith, ap, ◌∙◌, sym, subst, inl, inr}
use Rattle.std.specs.Prelude.{AllPairs, slice_index_or}
use Rattle.in_place.specs.write_plan.list_laws.Members.{In}
use Rattle.posix_types.specs.declared.call.Who.{Who}
use Rattle.in_place.specs.write_plan.commute_laws.Handles.{same_who-sym}
use Rattle.in_place.specs.write_plan.posix_tables.Open.{same_who}
use Rattle.in_place.specs.write_plan.pm_model.Words.{Words}
use Rattle.layout_model.specs.declared.lines.Draft.{Draft}
use Rattle.in_place.specs.live_model.write_jobs.world_image_laws.image_model.Volume.{Volume}
use Rattle.in_place.specs.write_plan.posix_spec.State.{State}
use Rattle.in_place.specs.live_model.write_jobs.world_image_laws.world_model.Jobs.{ApartFrom, AreApartJobs, Job, JobsStand, JobStands}
use Rattle.in_place.specs.live_model.Standing.{AreJobsOf, AreOfTwoThreads, JobOut}
use Rattle.in_place.specs.live_model.Jobs.{without}

-- the first one and those behind it
two_of : (p : JobOut) (pending : List JobOut) (q : JobOut) → AllPairs AreOfTwoThreads (p ∷ pending) → In q pending → AreOfTwoThreads p q
two_of p [] q two is = absurd is
two_of p (x ∷ pending) q two (inl same) = subst (AreOfTwoThreads p) same (two 0 1 p (omega arith) (omega arith))
two_of p (x ∷ pending) q two (inr behind) =
    two_of p pending q (λ i j d before below. by i j d before below) behind where
      by : (i j : ℕ) (d : JobOut) → i < j → j < length (p ∷ pending) → AreOfTwoThreads (slice_index_or (p ∷ pending) i d) (slice_index_or (p ∷ pending) j d)
      by zero zero d before below = absurd (omega (arith, before))
      by zero (suc j) d before below = two 0 (suc (suc j)) d (omega arith) (omega (arith, below))
      by (suc i) zero d before below = absurd (omega (arith, before))
      by (suc i) (suc j) d before below = two (suc (suc i)) (suc (suc j)) d (omega (arith, before)) (omega (arith, below))

rest_two : (p : JobOut) (pending : List JobOut) → AllPairs AreOfTwoThreads (p ∷ pending) → AllPairs AreOfTwoThreads pending
rest_two p pending two i j d before below = two (suc i) (suc j) d (omega (arith, before)) (omega (arith, below))

-- all are of other callers
all_other : (who : Who) (pending : List JobOut) → ((q : JobOut) → In q pending → same_who q.who who ≡ false) → without who pending ≡ pending
all_other who [] other = refl
all_other who (q ∷ pending) other =
    ap (λ b. cond (not b) (q ∷ without who pending) (without who pending)) (other q (inl refl))
    ∙ ap (λ xs. q ∷ xs) (all_other who pending (λ x is. other x (inr is)))

same_who-refl : (who : Who) → same_who who who ≡ true
same_who-refl Who.Setup = refl
same_who-refl (Who.Thread n) = grind (arith)

-- THE JOB THAT ENDS, and those before and behind it
pub record IsSplit (pending : List JobOut) (jobs : List Job) (p : JobOut) : Type 0 where
  pub a : List Job
  pub j : Job
  pub b : List Job
  pub jobs_are : jobs ≡ a ++ j ∷ b
  pub rest : AreJobsOf (without p.who pending) (a ++ b)
  pub who : j.who ≡ p.who
  pub call : j.call ≡ p.call
  pub draft : j.draft ≡ p.draft

-- with one more in front
split_behind : (q : JobOut) (pending : List JobOut) (j : Job) (jobs : List Job) (p : JobOut) → AreJobsOf (q ∷ pending) (j ∷ jobs) → AreOfTwoThreads q p → IsSplit pending jobs p → IsSplit (q ∷ pending) (j ∷ jobs) p
split_behind q pending j jobs p are two its = record {
  a = j ∷ its.a;
  j = its.j;
  b = its.b;
  jobs_are = ap (λ xs. j ∷ xs) its.jobs_are;
  rest = subst (λ xs. AreJobsOf xs (j ∷ (its.a ++ its.b))) (sym kept) (are.0, are.1, are.2, its.rest);
  who = its.who;
  call = its.call;
  draft = its.draft;
} where
  kept : without p.who (q ∷ pending) ≡ q ∷ without p.who pending
  kept = ap (λ b. cond (not b) (q ∷ without p.who pending) (without p.who pending)) two.other

pub split_of : (pending : List JobOut) (jobs : List Job) (p : JobOut) → AreJobsOf pending jobs → In p pending → AllPairs AreOfTwoThreads pending → IsSplit pending jobs p
split_of [] jobs p are is two = absurd is
split_of (q ∷ pending) [] p are is two = absurd are
split_of (q ∷ pending) (j ∷ jobs) p are (inl same) two = record {
  a = [];
  j = j;
  b = jobs;
  jobs_are = refl;
  rest = subst (λ xs. AreJobsOf xs jobs) (sym gone) are.3;
  who = are.0 ∙ ap (λ (x : JobOut). x.who) same;
  call = are.1 ∙ ap (λ (x : JobOut). x.call) same;
  draft = are.2 ∙ ap (λ (x : JobOut). x.draft) same;
} where
  own : same_who q.who p.who ≡ true
  own = ap (same_who q.who) (sym (ap (λ (x : JobOut). x.who) same)) ∙ same_who-refl q.who

  gone : without p.who (q ∷ pending) ≡ pending
  gone =
      ap (λ b. cond (not b) (q ∷ without p.who pending) (without p.who pending)) own
      ∙ all_other p.who pending (λ x there.
      ap (same_who x.who) (sym (ap (λ (y : JobOut). y.who) same)) ∙ same_who-sym x.who q.who ∙ (two_of q pending x two there).other)
split_of (q ∷ pending) (j ∷ jobs) p are (inr behind) two =
    split_behind q pending j jobs p are (two_of q pending p two behind) (split_of pending jobs p are.3 behind (rest_two q pending two))

-- one that is left was there
pub left_there : (who : Who) (pending : List JobOut) (q : JobOut) → In q (without who pending) → In q pending
left_there who [] q is = is
left_there who (x ∷ pending) q is = by (same_who x.who who) is (left_there who pending q) where
  by : (c : Bool) → In q (cond (not c) (x ∷ without who pending) (without who pending)) → (In q (without who pending) → In q pending) → In q (x ∷ pending)
  by true there rest = inr (rest there)
  by false (inl same) rest = inl same
  by false (inr there) rest = inr (rest there)

-- the job of one that is out
pub record IsJobOf (p : JobOut) (jobs : List Job) : Type 0 where
  pub job : Job
  pub there : In job jobs
  pub who : job.who ≡ p.who
  pub call : job.call ≡ p.call
  pub draft : job.draft ≡ p.draft

pub job_of : (pending : List JobOut) (jobs : List Job) (p : JobOut) → AreJobsOf pending jobs → In p pending → IsJobOf p jobs
job_of [] jobs p are is = absurd is
job_of (q ∷ pending) [] p are is = absurd are
job_of (q ∷ pending) (j ∷ jobs) p are (inl same) = record {
  job = j;
  there = inl refl;
  who = are.0 ∙ ap (λ (x : JobOut). x.who) same;
  call = are.1 ∙ ap (λ (x : JobOut). x.call) same;
  draft = are.2 ∙ ap (λ (x : JobOut). x.draft) same;
}
job_of (q ∷ pending) (j ∷ jobs) p are (inr rest) =
    let its = job_of pending jobs p are.3 rest in
    record { job = its.job; there = inr its.there; who = its.who; call = its.call; draft = its.draft }

pub apart_of : (i : Job) (jobs : List Job) (x : Job) → ApartFrom i jobs → In x jobs → AreApartJobs i x
apart_of i [] x apart is = absurd is
apart_of i (j ∷ jobs) x apart (inl same) = subst (AreApartJobs i) same apart.0
apart_of i (j ∷ jobs) x apart (inr rest) = apart_of i jobs x apart.1 rest

pub stands_of : (v : Volume) (live : List Draft) (f : Words) (numbers : List ℕ) (s : State) (jobs : List Job) (x : Job) → JobsStand v live f numbers s jobs → In x jobs → JobStands v live f numbers s x
stands_of v live f numbers s [] x out is = absurd is
stands_of v live f numbers s (j ∷ jobs) x out (inl same) = subst (JobStands v live f numbers s) same out.0
stands_of v live f numbers s (j ∷ jobs) x out (inr rest) = stands_of v live f numbers s jobs x out.2 rest
