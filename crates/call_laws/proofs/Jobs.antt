-- The jobs that are out, their needs and their runs; and what stands together.
use Rattle.std.specs.Prelude.{◌≡◌, ◌≢◌, ◌⊎◌, ◌+◌, ℕ, Bool, List, [], ◌∷◌, map, sum_by, refl}
use Rattle.std.proofs.Common.{arith, ap, ◌∙◌, sym, inl, inr}
use Rattle.std.proofs.lemmas.List.Sums.{sum_by-cons}
use Rattle.world_view_laws.specs.eof_laws.layout_model.declared.lines.Draft.{Draft}
use Rattle.world_view_laws.specs.eof_laws.image_model.Volume.{Volume}
use Rattle.world_view_laws.specs.eof_laws.pm_model.Words.{Words}
use Rattle.world_view_laws.specs.list_laws.Members.{In}
use Rattle.world_view_laws.proofs.in_flight_proofs.CountsJobs.{its_job, words_now, world_now}
use Rattle.world_view_laws.proofs.write_end_proofs.LosingPending.{apart_of}
use Rattle.world_view_laws.specs.eof_laws.layout_model.Places.{Geometry}
use Rattle.world_view_laws.specs.eof_laws.k_split_model.View.{View}
use Rattle.world_view_laws.specs.eof_laws.posix_tables.Open.{Tables}
use Rattle.world_view_laws.specs.eof_laws.posix_laws.Views.{need_of}
use Rattle.world_view_laws.specs.eof_laws.posix_spec.Run.{Unfinished}
use Rattle.world_view_laws.specs.eof_laws.posix_spec.State.{State}
use Rattle.world_view_laws.specs.in_flight.world_model.Jobs.{unfinished_call, Job, JobsStand, live_claims}
use Rattle.world_view_laws.specs.in_flight.live_model.Standing.{AreJobsOf, Kept, JobOut, StandsAt}
use Rattle.world_view_laws.specs.in_flight.live_model.world_model.JobLaws.{needs}

-- ---- what stands

-- they stand together also where one node more may have been made
pub stands_later : (g : Geometry) (k : View) (t : Tables) (kept : Kept) (lines : Bool) (n : ℕ) (s : State) → StandsAt g k t kept lines n s → StandsAt g k t kept lines (n + 1) s
stands_later g k t kept lines n s stands = record {
  count = stands.count;
  few = (let few = stands.few in omega (arith, few));
  numbers = stands.numbers;
  jobs = stands.jobs;
  jobs_are = stands.jobs_are;
  order = stands.order;
  unbatched = stands.unbatched;
  on = stands.on;
  geometry = stands.geometry;
  flying = stands.flying;
  lines = stands.lines;
  quiet = stands.quiet;
  blocks = stands.blocks;
  callers = stands.callers;
  spare = stands.spare;
  tables = stands.tables;
  open_are_files = stands.open_are_files;
  ordered = stands.ordered;
  sizes = stands.sizes;
  bare = stands.bare;
  staged = stands.staged;
  agrees = stands.agrees;
  free_single = stands.free_single;
  drafts = stands.drafts;
  low = λ ino. (let low = stands.low ino in omega (arith, low));
  claims_out = stands.claims_out;
  jobs_out = stands.jobs_out;
  owed = stands.owed;
}

-- ---- the jobs that are out

-- what they need is what their calls do
pub needs_are : (s : State) (pending : List JobOut) (jobs : List Job) → AreJobsOf pending jobs → needs s jobs ≡ sum_by (λ (p : JobOut). need_of s p.who p.call) pending
needs_are s [] [] are = refl
needs_are s [] (j ∷ jobs) are = absurd are
needs_are s (p ∷ pending) [] are = absurd are
needs_are s (p ∷ pending) (j ∷ jobs) are =
    sum_by-cons (λ (c : Unfinished). need_of s c.0 c.1) (unfinished_call j) (map unfinished_call jobs)
    ∙ ((λ i. need_of s (are.0 i) (are.1 i) + needs_are s pending jobs are.3 i) ∙ sym (sum_by-cons (λ (q : JobOut). need_of s q.who q.call) p pending))

-- two of them are one, or of two files
two_files : (v : Volume) (live : List Draft) (f : Words) (numbers : List ℕ) (s : State) (jobs : List Job) (i j : Job) → JobsStand v live f numbers s jobs → In i jobs → In j jobs → (i ≡ j) ⊎ (i.draft.ino ≢ j.draft.ino)
two_files v live f numbers s [] i j out first second = absurd first
two_files v live f numbers s (x ∷ jobs) i j out (inl one) (inl other) = inl (sym one ∙ other)
two_files v live f numbers s (x ∷ jobs) i j out (inl one) (inr at) = inr (λ same. (apart_of x jobs j out.1 at).files (ap (λ (y : Job). y.draft.ino) one ∙ same))
two_files v live f numbers s (x ∷ jobs) i j out (inr at) (inl other) = inr (λ same. (apart_of x jobs i out.1 at).files (ap (λ (y : Job). y.draft.ino) other ∙ sym same))
two_files v live f numbers s (x ∷ jobs) i j out (inr first) (inr second) = two_files v live f numbers s jobs i j out.2 first second

-- THE ENTRIES OF JOBS OF TWO CALLERS DIFFER, since they are of two files.
pub drafts_differ : (g : Geometry) (k : View) (t : Tables) (kept : Kept) (lines : Bool) (n : ℕ) (s : State) → StandsAt g k t kept lines n s → (p q : JobOut) → In p kept.pending → In q kept.pending
    → q.who ≢ p.who → q.draft ≢ p.draft
drafts_differ g k t kept lines n s stands p q there at other same =
    let own = its_job g k t kept lines n s stands p there in
    let its = its_job g k t kept lines n s stands q at in
    elim (two_files k.volume (live_claims k.volume kept.claims) (words_now g k t kept lines n s stands) stands.numbers s stands.jobs its.job own.job (world_now g k t kept lines n s stands).valid.out its.there own.there) [
      | inl one ↦ other (sym its.who ∙ (ap (λ (y : Job). y.who) one ∙ own.who))
      | inr apart ↦ apart (ap (λ (d : Draft). d.ino) (its.draft ∙ (same ∙ sym own.draft)))
    ]
