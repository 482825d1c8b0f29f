-- The job that ends among those that are out, and its loans.
use Rattle.oplog_entry.specs.layout_model.declared.lines.Draft.{Draft}
use Rattle.oplog_entry.specs.layout_model.declared.lines.Kind.TheVariants.{Staging}
use Rattle.oplog_entry.specs.image_model.Volume.{Volume, free_inode, inode}
use Rattle.in_place.specs.k_split_laws.list_laws.Members.{In}
use Rattle.oplog_entry.specs.pm_model.Parts.{Part}
use Rattle.oplog_entry.specs.pm_model.Words.{Words}
use Rattle.in_place.specs.k_split_laws.posix_spec.State.{State}
use Rattle.in_place.specs.k_split_laws.posix_types.declared.call.Who.{Who}
use Rattle.in_place.specs.k_split_laws.posix_tables.Open.{same_who}
use Rattle.std.proofs.Common.{Bool, List, Some, [], ap, arith, cond, false, inl, inr, length, not, refl, subst, suc, sym, true, zero, ℕ, ◌++◌, ◌<◌, ◌∙◌, ◌∷◌, ◌≡◌, ◌⊎◌}
use Rattle.std.proofs.lemmas.Bool.{cases_lt}
use Rattle.std.proofs.lemmas.List.{get_or_past, length-map}
use Rattle.std.specs.Prelude.{AllPairs, slice_index, slice_index_or}
use Rattle.in_place.specs.live_model.write_jobs.world_image_laws.world_model.Jobs.{ApartFrom, AreApartJobs, Job, JobStands, JobsStand, staged_block}
use Rattle.in_place.specs.live_model.Standing.{AreJobsOf, AreOfTwoThreads, HasItsBlocks, JobOut}
use Rattle.in_place.specs.live_model.Jobs.{without}
use Rattle.in_place.specs.write_plan.eof_laws.log_checkpoint.commute_laws.Handles.{same_who-sym}
use Rattle.in_place.specs.live_model.write_jobs.Jobs.{FilledView, blocks_of, loan_at}

-- the first one and those behind it
two_of : (p : JobOut) (pending : List JobOut) (q : JobOut) → AllPairs AreOfTwoThreads (p ∷ pending) → In q pending → AreOfTwoThreads p q
two_of p [] q two is = absurd is
two_of p (x ∷ pending) q two (inl same) = subst (AreOfTwoThreads p) same (two 0 1 p (omega arith) (omega arith))
two_of p (x ∷ pending) q two (inr behind) =
    two_of p pending q (λ i j d before below. by i j d before below) behind where
      by : (i j : ℕ) (d : JobOut) → i < j → j < length (p ∷ pending) → AreOfTwoThreads (slice_index_or (p ∷ pending) i d) (slice_index_or (p ∷ pending) j d)
      by zero zero d before below = absurd (omega (arith, before))
      by zero (suc j) d before below = two 0 (suc (suc j)) d (omega arith) (omega (arith, below))
      by (suc i) zero d before below = absurd (omega (arith, before))
      by (suc i) (suc j) d before below = two (suc (suc i)) (suc (suc j)) d (omega (arith, before)) (omega (arith, below))

rest_two : (p : JobOut) (pending : List JobOut) → AllPairs AreOfTwoThreads (p ∷ pending) → AllPairs AreOfTwoThreads pending
rest_two p pending two i j d before below = two (suc i) (suc j) d (omega (arith, before)) (omega (arith, below))

-- all are of other callers
all_other : (who : Who) (pending : List JobOut) → ((q : JobOut) → In q pending → same_who q.who who ≡ false) → without who pending ≡ pending
all_other who [] other = refl
all_other who (q ∷ pending) other =
    ap (λ b. cond (not b) (q ∷ without who pending) (without who pending)) (other q (inl refl))
    ∙ ap (λ xs. q ∷ xs) (all_other who pending (λ x is. other x (inr is)))

same_who-refl : (who : Who) → same_who who who ≡ true
same_who-refl Who.Setup = refl
same_who-refl (Who.Thread n) = grind (arith)

-- THE JOB THAT ENDS, and those before and behind it
pub record IsSplit (pending : List JobOut) (jobs : List Job) (p : JobOut) : Type 0 where
  pub a : List Job
  pub j : Job
  pub b : List Job
  pub jobs_are : jobs ≡ a ++ j ∷ b
  pub rest : AreJobsOf (without p.who pending) (a ++ b)
  pub who : j.who ≡ p.who
  pub call : j.call ≡ p.call
  pub draft : j.draft ≡ p.draft

-- with one more in front
split_behind : (q : JobOut) (pending : List JobOut) (j : Job) (jobs : List Job) (p : JobOut) → AreJobsOf (q ∷ pending) (j ∷ jobs) → AreOfTwoThreads q p → IsSplit pending jobs p → IsSplit (q ∷ pending) (j ∷ jobs) p
split_behind q pending j jobs p are two its = record {
  a = j ∷ its.a;
  j = its.j;
  b = its.b;
  jobs_are = ap (λ xs. j ∷ xs) its.jobs_are;
  rest = subst (λ xs. AreJobsOf xs (j ∷ (its.a ++ its.b))) (sym kept) (are.0, are.1, are.2, its.rest);
  who = its.who;
  call = its.call;
  draft = its.draft;
} where
  kept : without p.who (q ∷ pending) ≡ q ∷ without p.who pending
  kept = ap (λ b. cond (not b) (q ∷ without p.who pending) (without p.who pending)) two.other

pub split_of : (pending : List JobOut) (jobs : List Job) (p : JobOut) → AreJobsOf pending jobs → In p pending → AllPairs AreOfTwoThreads pending → IsSplit pending jobs p
split_of [] jobs p are is two = absurd is
split_of (q ∷ pending) [] p are is two = absurd are
split_of (q ∷ pending) (j ∷ jobs) p are (inl same) two = record {
  a = [];
  j = j;
  b = jobs;
  jobs_are = refl;
  rest = subst (λ xs. AreJobsOf xs jobs) (sym gone) are.3;
  who = are.0 ∙ ap (λ (x : JobOut). x.who) same;
  call = are.1 ∙ ap (λ (x : JobOut). x.call) same;
  draft = are.2 ∙ ap (λ (x : JobOut). x.draft) same;
} where
  own : same_who q.who p.who ≡ true
  own = ap (same_who q.who) (sym (ap (λ (x : JobOut). x.who) same)) ∙ same_who-refl q.who

  gone : without p.who (q ∷ pending) ≡ pending
  gone =
      ap (λ b. cond (not b) (q ∷ without p.who pending) (without p.who pending)) own
      ∙ all_other p.who pending (λ x there.
      ap (same_who x.who) (sym (ap (λ (y : JobOut). y.who) same)) ∙ same_who-sym x.who q.who ∙ (two_of q pending x two there).other)
split_of (q ∷ pending) (j ∷ jobs) p are (inr behind) two =
    split_behind q pending j jobs p are (two_of q pending p two behind) (split_of pending jobs p are.3 behind (rest_two q pending two))

-- one that is left was there
pub left_there : (who : Who) (pending : List JobOut) (q : JobOut) → In q (without who pending) → In q pending
left_there who [] q is = is
left_there who (x ∷ pending) q is = by (same_who x.who who) is (left_there who pending q) where
  by : (c : Bool) → In q (cond (not c) (x ∷ without who pending) (without who pending)) → (In q (without who pending) → In q pending) → In q (x ∷ pending)
  by true there rest = inr (rest there)
  by false (inl same) rest = inl same
  by false (inr there) rest = inr (rest there)

-- the job of one that is out
pub record IsJobOf (p : JobOut) (jobs : List Job) : Type 0 where
  pub job : Job
  pub there : In job jobs
  pub who : job.who ≡ p.who
  pub call : job.call ≡ p.call
  pub draft : job.draft ≡ p.draft

pub job_of : (pending : List JobOut) (jobs : List Job) (p : JobOut) → AreJobsOf pending jobs → In p pending → IsJobOf p jobs
job_of [] jobs p are is = absurd is
job_of (q ∷ pending) [] p are is = absurd are
job_of (q ∷ pending) (j ∷ jobs) p are (inl same) = record {
  job = j;
  there = inl refl;
  who = are.0 ∙ ap (λ (x : JobOut). x.who) same;
  call = are.1 ∙ ap (λ (x : JobOut). x.call) same;
  draft = are.2 ∙ ap (λ (x : JobOut). x.draft) same;
}
job_of (q ∷ pending) (j ∷ jobs) p are (inr rest) =
    let its = job_of pending jobs p are.3 rest in
    record { job = its.job; there = inr its.there; who = its.who; call = its.call; draft = its.draft }

pub apart_of : (i : Job) (jobs : List Job) (x : Job) → ApartFrom i jobs → In x jobs → AreApartJobs i x
apart_of i [] x apart is = absurd is
apart_of i (j ∷ jobs) x apart (inl same) = subst (AreApartJobs i) same apart.0
apart_of i (j ∷ jobs) x apart (inr rest) = apart_of i jobs x apart.1 rest

pub stands_of : (v : Volume) (live : List Draft) (f : Words) (numbers : List ℕ) (s : State) (jobs : List Job) (x : Job) → JobsStand v live f numbers s jobs → In x jobs → JobStands v live f numbers s x
stands_of v live f numbers s [] x out is = absurd is
stands_of v live f numbers s (j ∷ jobs) x out (inl same) = subst (JobStands v live f numbers s) same out.0
stands_of v live f numbers s (j ∷ jobs) x out (inr rest) = stands_of v live f numbers s jobs x out.2 rest

-- one of these or of the others
pub split_in : (a : List Job) (i : Job) (b : List Job) (x : Job) → In x (a ++ i ∷ b) → (i ≡ x) ⊎ In x (a ++ b)
split_in [] i b x is = is
split_in (y ∷ a) i b x (inl same) = inr (inl same)
split_in (y ∷ a) i b x (inr rest) = elim (split_in a i b x rest) [ inl own ↦ inl own | inr other ↦ inr (inr other) ]

-- ---- loans and blocks

pub staging_below : (v : Volume) (x : ℕ) → (inode v x).kind ≡ Staging → x < length v.inodes
staging_below v x staging = elim (cases_lt x (length v.inodes)) [
  | inl below ↦ below
  | inr past ↦ let never : Staging ≡ free_inode.kind = sym staging ∙ ap (λ y. y.kind) (get_or_past v.inodes x free_inode past) in cc
]

place_of : (loans : List Part) (n : ℕ) → slice_index (blocks_of loans) n ≡ (loan_at loans n).place
place_of [] n = refl
place_of (x ∷ loans) zero = refl
place_of (x ∷ loans) (suc n) = place_of loans n

-- the loans of a job are of the blocks of its entry
module _ (v : Volume) (p : JobOut) (j : Job) (job : FilledView) (its : HasItsBlocks v p) (blocks : blocks_of job.loans ≡ p.blocks) (draft : j.draft ≡ p.draft) where
  pub loans_of_entry : length job.loans ≡ j.draft.count
  loans_of_entry = sym (length-map job.loans (λ (x : Part). x.place)) ∙ ap length blocks ∙ its.count ∙ ap (λ (d : Draft). d.count) (sym draft)

  pub places_of_entry : (n : ℕ) → n < j.draft.count → staged_block v j.draft n ≡ Some (loan_at job.loans n).place
  places_of_entry n within =
      ap (λ (d : Draft). staged_block v d n) draft
      ∙ its.each n (subst (λ (d : Draft). n < d.count) draft within)
      ∙ ap (λ b. Some b) (ap (λ xs. slice_index xs n) (sym blocks) ∙ place_of job.loans n)
