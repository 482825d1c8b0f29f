-- The jobs of a World that stands together, and a call beside them.
use Rattle.std.specs.Prelude.{◌≡◌, ◌≤◌, ◌+◌, ◌==◌, ℕ, Bool, true, false, List, [], ◌∷◌, map, Some, unwrap_or, sum_by, refl}
use Rattle.std.proofs.Common.{arith, ap, ◌∙◌, sym, subst, inl, inr}
use Rattle.std.proofs.lemmas.Bool.Decides.{Decides-eqb}
use Rattle.std.proofs.lemmas.List.Sums.{sum_by-cons}
use Rattle.std.proofs.lemmas.Option.{same_Some}
use Rattle.live_model.specs.pm_model.ImageLaws.{IsImage-words_of}
use Rattle.live_model.specs.pm_model.Images.{words_of}
use Rattle.live_model.specs.pm_model.Words.{Words}
use Rattle.live_model.specs.layout_model.Journal.{journaled}
use Rattle.live_model.specs.layout_model.Places.{Geometry}
use Rattle.live_model.specs.layout_model.declared.lines.Draft.{Draft}
use Rattle.live_model.specs.image_model.Volume.{Volume}
use Rattle.live_model.specs.k_split_model.View.{View}
use Rattle.live_model.specs.commute_laws.list_laws.Members.{In}
use Rattle.posix_types.specs.declared.call.Call.{Call}
use Rattle.posix_types.specs.declared.call.Who.{Who}
use Rattle.live_model.specs.commute_laws.posix_tables.Open.{same_who, Tables}
use Rattle.live_model.specs.commute_laws.posix_laws.Puts.{put_bytes, PutsWhole}
use Rattle.live_model.specs.commute_laws.posix_laws.Views.{need_of}
use Rattle.live_model.specs.commute_laws.posix_spec.Run.{after_call, Unfinished}
use Rattle.live_model.specs.commute_laws.posix_spec.State.{room, State}
use Rattle.live_model.specs.commute_laws.Flights.{InFlight, need_of-step, PutsWhole-step, waits_for-put}
use Rattle.live_model.specs.commute_laws.Frames.{AreThreads}
use Rattle.live_model.specs.commute_laws.Histories.{AreAllThreads, LetsAllBe-idle, outs}
use Rattle.live_model.specs.commute_laws.Needs.{LetsAllBe, LetsBe}
use Rattle.live_model.specs.commute_laws.crash_spec.Busy.{is_busy, Out, waits_for}
use Rattle.live_model.specs.world_model.Jobs.{unfinished_call, Job, JobsStand, JobStands, live_claims}
use Rattle.live_model.specs.world_model.Stands.{number}
use Rattle.live_model.specs.world_model.JobLaws.{needs}
use Rattle.live_model.specs.world_step_laws.Steps.{AreBeside, flight_of, flights_of, InFlight-job, LetsJobsBe}
use Rattle.live_model.specs.world_step_laws.Touched.{only}
use Rattle.live_model.specs.world_step_laws.Worlds.{IsWorld}
use Rattle.live_model.specs.write_jobs.Blocks.{SpellWhole}
use Rattle.live_model.specs.Standing.{AreJobsOf, IsSpellable, Kept, JobOut, StandsAt}
use Rattle.live_model.specs.Jobs.{SpellCall}

-- ---- lists of jobs

pub same_who-refl : (who : Who) → same_who who who ≡ true
same_who-refl Who.Setup = refl
same_who-refl (Who.Thread n) = (Decides-eqb n n).1 refl

-- the job of one that is out
pub record IsJobOf (p : JobOut) (jobs : List Job) : Type 0 where
  pub job : Job
  pub there : In job jobs
  pub who : job.who ≡ p.who
  pub call : job.call ≡ p.call
  pub draft : job.draft ≡ p.draft

pub job_of : (pending : List JobOut) (jobs : List Job) (p : JobOut) → AreJobsOf pending jobs → In p pending → IsJobOf p jobs
job_of [] jobs p are is = absurd is
job_of (q ∷ pending) [] p are is = absurd are
job_of (q ∷ pending) (j ∷ jobs) p are (inl same) = record {
  job = j;
  there = inl refl;
  who = are.0 ∙ ap (λ (x : JobOut). x.who) same;
  call = are.1 ∙ ap (λ (x : JobOut). x.call) same;
  draft = are.2 ∙ ap (λ (x : JobOut). x.draft) same;
}
job_of (q ∷ pending) (j ∷ jobs) p are (inr rest) =
    let its = job_of pending jobs p are.3 rest in
    record { job = its.job; there = inr its.there; who = its.who; call = its.call; draft = its.draft }

stands_of : (v : Volume) (live : List Draft) (f : Words) (numbers : List ℕ) (s : State) (jobs : List Job) (x : Job) → JobsStand v live f numbers s jobs → In x jobs → JobStands v live f numbers s x
stands_of v live f numbers s [] x out is = absurd is
stands_of v live f numbers s (j ∷ jobs) x out (inl same) = subst (JobStands v live f numbers s) same out.0
stands_of v live f numbers s (j ∷ jobs) x out (inr rest) = stands_of v live f numbers s jobs x out.2 rest

-- what a call puts is one thing
puts_one : (s : State) (who : Who) (call : Call) (m n : ℕ) (a b : List ℕ) → PutsWhole s who call m a → PutsWhole s who call n b → a ≡ b
puts_one s who call m n a b one two = sym one.whole_is ∙ (ap (put_bytes s) (same_Some one.put two.put (sym one.is ∙ two.is)) ∙ two.whole_is)

-- the writes that are out, as the busy rule sees them
outs_are : (s : State) (numbers : List ℕ) (pending : List JobOut) (jobs : List Job) → AreJobsOf pending jobs
    → ((j : Job) → In j jobs → waits_for s (j.who, j.call) ≡ Some (number numbers j.draft.ino))
    → map (λ (p : JobOut). (let o : Out = (p.who, unwrap_or (waits_for s (p.who, p.call)) 0) in o)) pending ≡ outs (flights_of numbers jobs)
outs_are s numbers [] [] are waits = refl
outs_are s numbers [] (j ∷ jobs) are waits = absurd are
outs_are s numbers (p ∷ pending) [] are waits = absurd are
outs_are s numbers (p ∷ pending) (j ∷ jobs) are waits =
    let here : waits_for s (p.who, p.call) ≡ Some (number numbers j.draft.ino) = (λ i. waits_for s (sym are.0 i, sym are.1 i)) ∙ waits j (inl refl) in
    λ i. (let o : Out = (sym are.0 i, unwrap_or (here i) 0) in o) ∷ outs_are s numbers pending jobs are.3 (λ x is. waits x (inr is)) i

all_threads : (numbers : List ℕ) (c : Unfinished) (pending : List JobOut) (jobs : List Job) → AreJobsOf pending jobs → ((p : JobOut) → In p pending → AreThreads p.who c.0) → AreAllThreads c (flights_of numbers jobs)
all_threads numbers c [] [] are threads = tt
all_threads numbers c [] (j ∷ jobs) are threads = absurd are
all_threads numbers c (p ∷ pending) [] are threads = absurd are
all_threads numbers c (p ∷ pending) (j ∷ jobs) are threads =
    (subst (λ w. AreThreads w c.0) (sym are.0) (threads p (inl refl)), all_threads numbers c pending jobs are.3 (λ q is. threads q (inr is)))

-- a job of another file than that which the call waits for
beside_of : (s : State) (c : Unfinished) (numbers : List ℕ) (ino : ℕ) (jobs : List Job) → waits_for s c ≡ Some (number numbers ino) → LetsAllBe s c (flights_of numbers jobs) → AreBeside (only ino) jobs
beside_of s c numbers ino [] waits lets = tt
beside_of s c numbers ino (j ∷ jobs) waits lets = (by (j.draft.ino == ino) refl, beside_of s c numbers ino jobs waits lets.1) where
  by : (b : Bool) → (j.draft.ino == ino) ≡ b → (j.draft.ino == ino) ≡ false
  by false is = is
  by true is = absurd (lets.0.aside (waits ∙ ap (λ m. Some (number numbers m)) (sym ((Decides-eqb j.draft.ino ino).0 is))))

lets_of : (s : State) (c : Unfinished) (numbers : List ℕ) (jobs : List Job) (j : Job) → LetsAllBe s c (flights_of numbers jobs) → In j jobs → LetsBe s c (flight_of numbers j)
lets_of s c numbers [] j lets is = absurd is
lets_of s c numbers (x ∷ jobs) j lets (inl same) = subst (λ y. LetsBe s c (flight_of numbers y)) same lets.0
lets_of s c numbers (x ∷ jobs) j lets (inr rest) = lets_of s c numbers jobs j lets.1 rest

needs_more : (s : State) (j : Job) (jobs : List Job) → needs s (j ∷ jobs) ≡ need_of s j.who j.call + needs s jobs
needs_more s j jobs = sum_by-cons (λ (c : Unfinished). need_of s c.0 c.1) (unfinished_call j) (map unfinished_call jobs)

-- each needs what all need at most
need_within : (s : State) (jobs : List Job) (j : Job) → In j jobs → need_of s j.who j.call ≤ needs s jobs
need_within s [] j is = absurd is
need_within s (x ∷ jobs) j (inl same) = let own : need_of s x.who x.call ≡ need_of s j.who j.call = ap (λ (y : Job). need_of s y.who y.call) same in omega (arith, own, needs_more s x jobs)
need_within s (x ∷ jobs) j (inr rest) = let below = need_within s jobs j rest in omega (arith, below, needs_more s x jobs)

-- what the jobs need is what the ones that are kept as out need
pub needs_are : (s : State) (pending : List JobOut) (jobs : List Job) → AreJobsOf pending jobs → needs s jobs ≡ sum_by (λ (p : JobOut). need_of s p.who p.call) pending
needs_are s [] [] are = refl
needs_are s [] (j ∷ jobs) are = absurd are
needs_are s (p ∷ pending) [] are = absurd are
needs_are s (p ∷ pending) (j ∷ jobs) are =
    let own : need_of s j.who j.call ≡ need_of s p.who p.call = λ i. need_of s (are.0 i) (are.1 i) in
    let rest = needs_are s pending jobs are.3 in
    omega (arith, own, rest, needs_more s j jobs, sum_by-cons (λ (q : JobOut). need_of s q.who q.call) p pending)

-- ---- in a World that stands together

module _ (g : Geometry) (k : View) (t : Tables) (kept : Kept) (lines : Bool) (n : ℕ) (s : State) (stands : StandsAt g k t kept lines n s) where
  abbrev pub words_now : Words
  words_now = journaled (words_of k.cells)

  pub world_now : IsWorld k.volume kept.claims stands.jobs words_now stands.numbers s stands.count
  world_now = stands.flying.device.world (words_of k.cells) (IsImage-words_of k.cells)

  pub its_job : (p : JobOut) → In p kept.pending → IsJobOf p stands.jobs
  its_job p is = job_of kept.pending stands.jobs p stands.jobs_are is

  pub stood : (j : Job) → In j stands.jobs → JobStands k.volume (live_claims k.volume kept.claims) words_now stands.numbers s j
  stood j is = stands_of k.volume (live_claims k.volume kept.claims) words_now stands.numbers s stands.jobs j world_now.valid.out is

  -- a line can hold the entry of a job
  pub spellable : (p : JobOut) → In p kept.pending → IsSpellable p.draft
  spellable p is =
      let its = its_job p is in
      subst IsSpellable its.draft (record { fields = (stood its.job its.there).draft; fits = (stood its.job its.there).fields })

  pub puts_of : (p : JobOut) → (is : In p kept.pending) → PutsWhole s p.who p.call (number stands.numbers (its_job p is).job.draft.ino) (its_job p is).job.whole
  puts_of p is =
      let its = its_job p is in
      subst (λ (c : Call). PutsWhole s p.who c (number stands.numbers its.job.draft.ino) its.job.whole) its.call
      (subst (λ (w : Who). PutsWhole s w its.job.call (number stands.numbers its.job.draft.ino) its.job.whole) its.who (stood its.job its.there).puts)

  -- the file that it is out of
  pub waits_of : (p : JobOut) → In p kept.pending → waits_for s (p.who, p.call) ≡ Some (number stands.numbers p.draft.ino)
  waits_of p is =
      let its = its_job p is in
      waits_for-put s p.who p.call (number stands.numbers its.job.draft.ino) its.job.whole (puts_of p is)
      ∙ ap (λ (d : Draft). Some (number stands.numbers d.ino)) its.draft

  pub files_are : map (λ (p : JobOut). (let o : Out = (p.who, unwrap_or (waits_for s (p.who, p.call)) 0) in o)) kept.pending ≡ outs (flights_of stands.numbers stands.jobs)
  files_are =
      outs_are s stands.numbers kept.pending stands.jobs stands.jobs_are
      (λ j is. waits_for-put s j.who j.call (number stands.numbers j.draft.ino) j.whole (stood j is).puts)

  -- A CALL THAT NO JOB KEEPS WAITING LETS ALL JOBS BE.
  pub lets_be : (c : Unfinished) → is_busy s (map (λ (p : JobOut). (let o : Out = (p.who, unwrap_or (waits_for s (p.who, p.call)) 0) in o)) kept.pending) c ≡ false
      → ((p : JobOut) → In p kept.pending → AreThreads p.who c.0) → LetsJobsBe s c stands.numbers stands.jobs
  lets_be c idle threads =
      LetsAllBe-idle s c (flights_of stands.numbers stands.jobs) (subst (λ (out : List Out). is_busy s out c ≡ false) files_are idle)
      (all_threads stands.numbers c kept.pending stands.jobs stands.jobs_are threads)

  -- and no job is out of the file that it would wait for
  pub lets_file_be : (c : Unfinished) (ino : ℕ) → waits_for s c ≡ Some (number stands.numbers ino) → LetsJobsBe s c stands.numbers stands.jobs → AreBeside (only ino) stands.jobs
  lets_file_be c ino waits lets = beside_of s c stands.numbers ino stands.jobs waits lets

  -- IT LEAVES THEM THE WORDS OF THEIR CALLS, where they stand together behind it.
  module _ (c : Unfinished) (lets : LetsJobsBe s c stands.numbers stands.jobs) (h : Geometry) (l : View) (u : Tables) (then : Kept) (out : Bool) (m : ℕ) (now : StandsAt h l u then out m (after_call s c)) (same : then.pending ≡ kept.pending) where
    pub words_stay : (p : JobOut) (words : List ℕ) → In p kept.pending → SpellCall s p words → SpellCall (after_call s c) p words
    words_stay p words is spells node whole puts =
        subst (SpellWhole p.draft words) (sym one) (spells (number stands.numbers j.draft.ino) j.whole (puts_of p is)) where
          its : IsJobOf p stands.jobs
          its = its_job p is

          j : Job
          j = its.job

          its_now : IsJobOf p now.jobs
          its_now = job_of then.pending now.jobs p now.jobs_are (subst (In p) (sym same) is)

          world_then : IsWorld l.volume then.claims now.jobs (journaled (words_of l.cells)) now.numbers (after_call s c) now.count
          world_then = now.flying.device.world (words_of l.cells) (IsImage-words_of l.cells)

          flight : InFlight s (unfinished_call j) (number stands.numbers j.draft.ino) j.whole
          flight = InFlight-job k.volume (live_claims k.volume kept.claims) words_now stands.numbers s j world_now.valid.stands (stood j its.there)

          let_be : LetsBe s c (flight_of stands.numbers j)
          let_be = lets_of s c stands.numbers stands.jobs j lets its.there

          own_need : need_of (after_call s c) j.who j.call ≡ need_of s j.who j.call
          own_need = need_of-step s (unfinished_call j) c (number stands.numbers j.draft.ino) j.whole let_be.threads flight let_be.aside

          same_call : need_of (after_call s c) j.who j.call ≡ need_of (after_call s c) its_now.job.who its_now.job.call
          same_call = λ i. need_of (after_call s c) ((its.who ∙ sym its_now.who) i) ((its.call ∙ sym its_now.call) i)

          fits : need_of s j.who j.call ≤ room (after_call s c)
          fits = omega (arith, own_need, same_call, need_within (after_call s c) now.jobs its_now.job its_now.there, world_then.valid.room)

          after : PutsWhole (after_call s c) j.who j.call (number stands.numbers j.draft.ino) j.whole
          after = PutsWhole-step s (unfinished_call j) c (number stands.numbers j.draft.ino) j.whole let_be.threads flight let_be.aside fits

          after_own : PutsWhole (after_call s c) p.who p.call (number stands.numbers j.draft.ino) j.whole
          after_own =
              subst (λ (x : Call). PutsWhole (after_call s c) p.who x (number stands.numbers j.draft.ino) j.whole) its.call
              (subst (λ (w : Who). PutsWhole (after_call s c) w j.call (number stands.numbers j.draft.ino) j.whole) its.who after)

          one : whole ≡ j.whole
          one = puts_one (after_call s c) p.who p.call node (number stands.numbers j.draft.ino) whole j.whole puts after_own
